-- What must be lent so that rows can be combined, and the wide arrays that they are summed in.
pub mod Lent
pub mod Wide
