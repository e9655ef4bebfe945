-- How a repricing goes on, and what it asks.
pub mod Lent
