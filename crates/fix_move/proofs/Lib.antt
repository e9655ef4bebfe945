-- Laws of a fix of a non_basic column.
pub mod Laws
