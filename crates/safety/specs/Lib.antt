pub mod Ready
pub mod Histories
pub mod Worked
