-- Laws of the public call, and what it means.
pub mod Laws
pub mod Meaning
