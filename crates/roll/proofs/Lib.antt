pub mod Marking
pub mod FileRules
pub mod Rolls
pub mod OneResult
pub mod HandsBack
pub mod Preface
pub mod Demands
pub mod Walking
