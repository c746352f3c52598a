pub mod Scripts
pub mod Execution
pub mod Steps
pub mod Opening
pub mod Properties
