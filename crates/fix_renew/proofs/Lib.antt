-- Why writing two transposes is enough. No contract cites this.
pub mod Laws
