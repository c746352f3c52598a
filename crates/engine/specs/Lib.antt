pub mod Decoding
pub mod View
