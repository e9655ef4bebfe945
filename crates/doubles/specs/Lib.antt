-- What all crates share: doubles, the limits of 01, loops, and lists. Definitions only; their laws stand in proofs/.
pub mod Num
pub mod Exact
pub mod Limits
pub mod Loop
pub mod Lists
pub mod Words
