mod Carried
mod Writing
mod Boards
pub mod Smallest
mod Netted
mod Putting
pub mod Asked
mod Entering
mod Whole
