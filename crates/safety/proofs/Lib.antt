pub mod Permitting
pub mod Readiness
pub mod Stepping
pub mod Safety
pub mod Working
