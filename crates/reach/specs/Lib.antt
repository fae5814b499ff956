pub mod Reach
pub mod Order
pub mod Flags
pub mod Listed
pub mod Steps
pub mod Answer
pub mod Told
