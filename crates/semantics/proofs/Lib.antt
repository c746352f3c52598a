pub mod Executing
pub mod Operations
pub mod Telling
pub mod Agreeing
