pub mod Saying
pub mod OneResult
pub mod Buffers
pub mod Sample
pub mod Demands
