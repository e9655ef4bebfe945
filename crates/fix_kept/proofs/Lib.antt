-- How 41's test is put together. No contract cites this.
pub mod Laws
