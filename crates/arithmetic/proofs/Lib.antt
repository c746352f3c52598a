pub mod Widths
pub mod Divisions
pub mod Results
pub mod Comparisons
pub mod Others
