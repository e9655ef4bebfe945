-- What is lent of a problem to a call's run.
pub mod Lent
