-- The multipliers out of a factor that isn't stored.
pub mod Mults
