-- What is tested of the dual norms, and what storing them leaves.
pub mod Tested
