-- The rows and maps that a run left, tested.
pub mod Maps
