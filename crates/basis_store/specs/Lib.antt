-- The room that a new eta column needs.
pub mod Room
