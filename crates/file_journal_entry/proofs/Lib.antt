-- What an entry means on a sheet.
pub mod Laws
