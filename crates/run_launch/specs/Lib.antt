-- How a solve that is not refused comes to its end.
pub mod Launched
