-- What the leaves ask, from what is asked of the whole workspace.
pub mod Laws
