-- The public triangle solves, as definitions; when each refusal is given, and what a list holds, in words.
pub mod Result
pub mod Conditions
pub mod Listing
pub mod Triangles
