-- What the public triangle solves mean.
mod Accepted
pub mod Refusals
pub mod Differ
pub mod Settled
pub mod Unvisited
pub mod Listing
pub mod Composed
