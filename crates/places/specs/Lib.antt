pub mod Put
pub mod Refill
