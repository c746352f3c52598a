pub mod Playing
pub mod Week
pub mod Working
