-- Each way through a solve from any start, and what it promises.
pub mod Laws
pub mod Meaning
