-- What a fix of a non_basic column asks, and what it leaves.
pub mod Lent
pub mod Shift
