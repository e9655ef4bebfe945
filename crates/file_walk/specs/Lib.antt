-- Reading as the code does it.
pub mod Stop
