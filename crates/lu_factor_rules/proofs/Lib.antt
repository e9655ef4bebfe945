-- Laws of factoring, and computed examples.
pub mod Laws
pub mod Listed
pub mod Choice
pub mod Count
pub mod Entries
pub mod Keeps
pub mod Turns
pub mod Shaped
pub mod Quotient
pub mod Numbers
pub mod Exactly
pub mod Packed
pub mod Examples
