-- What a call takes up, and what it hands out.
pub mod Ends
