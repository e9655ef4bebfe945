-- The night call, as executable definitions (02, Ask 14; docs/RULES-02.md).
pub mod Doubles
pub mod Arrays
pub mod Second
pub mod Stage
pub mod Night
pub mod Words
