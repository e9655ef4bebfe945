-- What the gateway answers before the first lent cell is written.
pub mod Lent
pub mod Gate
