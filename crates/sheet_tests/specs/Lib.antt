-- What the tests of sizes and numbers tell of a sheet.
pub mod Sized
pub mod Joined
