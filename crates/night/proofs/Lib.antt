-- The night cases, proved, and the wrong programs that they turn away.
pub mod Night
pub mod WrongPrograms
pub mod WrongSolvers
