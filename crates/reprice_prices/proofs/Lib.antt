-- What a pricing asks, and the ways it ends.
pub mod Laws
