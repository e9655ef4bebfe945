-- A proposal for the sheet, from the memory of a run.
pub mod Propose
pub mod Words
pub mod Meaning
