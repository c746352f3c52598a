pub mod Running
pub mod Hosts
pub mod Verdicts
pub mod Runs
pub mod Numbers
pub mod Words
pub mod Examples
