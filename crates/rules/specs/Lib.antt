pub mod Offsets
pub mod Rules
pub mod Leaves
