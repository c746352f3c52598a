pub mod Low
pub mod Small
pub mod Kinds
pub mod Faults
pub mod Order
pub mod Stacks
pub mod Bytes
