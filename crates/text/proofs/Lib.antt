pub mod Decimal
pub mod Spaced
pub mod PlanText
pub mod FirstLine
pub mod Rows
