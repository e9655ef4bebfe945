-- What the journal's calls ask and leave.
pub mod Laws
