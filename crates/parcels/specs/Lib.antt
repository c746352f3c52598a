pub mod Layouts
pub mod Literals
pub mod Reading
pub mod Opcodes
pub mod Parts
pub mod Instructions
pub mod Numbers
