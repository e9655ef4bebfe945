-- Beyond 02: prices anew for other costs, over a plan and the memory that a run left; and a solve from any start.
pub mod Reprice
pub mod Calls
pub mod Any
pub mod Meaning
