pub mod Listed
pub mod Puts
