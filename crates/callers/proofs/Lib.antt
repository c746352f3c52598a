pub mod JudgingVerdicts
pub mod Keeping
pub mod Leaning
pub mod Starting
pub mod Staying
mod Exactness
