pub mod Trust
pub mod Exits
pub mod SweepSteps
pub mod Greatest
pub mod Worklist
pub mod Whole
mod Numbers
