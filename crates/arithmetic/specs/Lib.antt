pub mod Division
pub mod Operators
pub mod Own
pub mod Layer
pub mod Laws
pub mod Layers
