-- Where the cells of a file stand.
pub mod Cells
