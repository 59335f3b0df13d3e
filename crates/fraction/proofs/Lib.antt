pub mod Scale
pub mod Order
pub mod Product
pub mod OneResult
