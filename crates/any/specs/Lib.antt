-- An answer from any start, and every lent cell.
pub mod Handed
