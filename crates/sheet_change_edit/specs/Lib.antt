-- The kinds' rule.
pub mod Rules
