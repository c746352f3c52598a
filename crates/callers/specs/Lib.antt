pub mod Judging
pub mod Relying
pub mod Files
