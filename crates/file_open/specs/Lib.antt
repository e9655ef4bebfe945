-- Where a plan's arrays stand in its file.
pub mod Places
