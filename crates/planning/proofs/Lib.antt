pub mod Arguments
pub mod Asking
pub mod Leading
pub mod Turning
