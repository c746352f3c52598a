pub mod Paths
pub mod Rules
pub mod Verdicts
