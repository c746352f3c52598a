pub mod Fetching
pub mod Leading
pub mod Accepting
