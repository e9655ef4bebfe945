-- What the moves ask, and what they give.
pub mod After
