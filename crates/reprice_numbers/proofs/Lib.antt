-- What the sums ask, and that they are the definitions'.
pub mod Laws
