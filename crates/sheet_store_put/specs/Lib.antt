-- What the writing half of an edit stores. Assumes nothing.
pub mod Cells
