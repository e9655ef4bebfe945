-- Laws of the steps between the stages.
pub mod Laws
