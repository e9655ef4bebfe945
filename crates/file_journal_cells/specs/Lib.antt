-- A feed's cells.
pub mod Cells
