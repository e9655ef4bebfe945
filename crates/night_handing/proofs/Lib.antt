-- Laws of the second stage, and of what is handed out.
pub mod Sections
pub mod Laws
