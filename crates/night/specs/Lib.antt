-- The night cases of 01 as data.
pub mod Plans
pub mod Cases
