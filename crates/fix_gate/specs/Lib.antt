-- What a call refuses.
pub mod Gate
