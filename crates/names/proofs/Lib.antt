pub mod Places
pub mod Maps
pub mod Entering
