-- What the sheet's code asks of the numbers that it is handed.
pub mod Small
