-- What stands at the places.
pub mod Laws
pub mod Payload
