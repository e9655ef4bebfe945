-- What the eta store must hold so that its columns can be read.
pub mod Store
