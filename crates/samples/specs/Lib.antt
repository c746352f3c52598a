pub mod Parcels
pub mod Weeks
pub mod Faults
