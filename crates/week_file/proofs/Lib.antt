pub mod Pieces
pub mod Searching
pub mod Writes
pub mod Asking
pub mod ReadBack
pub mod Settling
