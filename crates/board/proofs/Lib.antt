pub mod Listing
pub mod Signals
pub mod Driving
pub mod Writes
pub mod Drivers
mod Rows
mod Linked
mod Walk
mod Upward
pub mod Fed
