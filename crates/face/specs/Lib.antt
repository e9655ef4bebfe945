-- The numbers that the exported calls hand out.
pub mod Face
