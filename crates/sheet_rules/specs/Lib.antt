-- The audit sheet of 01: its definitions, in its order and words.
pub mod Sum
pub mod Sheet
pub mod Opening
pub mod Verdict
pub mod Edit
pub mod Touches
pub mod Words
pub mod Promises
pub mod Meaning
pub mod Night
