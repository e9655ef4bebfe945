-- The calls, by what they promise.
pub mod Meaning
