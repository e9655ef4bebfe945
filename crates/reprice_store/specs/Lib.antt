-- What the own part of a repricing asks.
pub mod Lent
