-- How the night hands out what its second stage left.
pub mod Handing
