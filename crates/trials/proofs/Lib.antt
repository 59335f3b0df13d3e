pub mod Scanning
pub mod Passing
pub mod Trying
pub mod Single
pub mod Deciding
pub mod Numbers
pub mod Alike
pub mod Own
