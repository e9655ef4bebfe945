-- What a triangle solve refuses, as tests.
pub mod Gate
