pub mod Reports
pub mod Rows
pub mod Cost
