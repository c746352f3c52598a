pub mod Smalls
pub mod Parts
pub mod Firsts
