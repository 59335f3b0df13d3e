pub mod Leaving
pub mod Floors
pub mod Table
