-- 02, Ask 9: fix and unfix, over a plan and the memory that a run left.
pub mod Kept
pub mod Unkept
pub mod Fix
pub mod Calls
pub mod Conditions
pub mod Sequence
pub mod Meaning
