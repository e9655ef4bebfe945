-- What a transpose asks, and what it means.
pub mod Read
pub mod Means
