pub mod Operands
pub mod Encoding
pub mod Contexts
pub mod Sweep
pub mod Examination
pub mod Check
pub mod Numbers
