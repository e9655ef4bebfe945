-- The places that an edit moves.
pub mod Span
