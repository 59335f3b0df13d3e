pub mod Filling
pub mod Copying
pub mod Putting
pub mod Splitting
