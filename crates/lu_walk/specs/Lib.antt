-- A triangular matrix by columns, the walk of it, and the order of that walk, as definitions.
pub mod Walk
pub mod Order
