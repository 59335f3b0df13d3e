pub mod Slowest
