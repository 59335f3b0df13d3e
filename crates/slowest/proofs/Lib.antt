pub mod Sums
pub mod Capped
pub mod Floored
pub mod Above
pub mod Alone
pub mod Theorems
