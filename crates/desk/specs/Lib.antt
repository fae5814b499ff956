pub mod Held
pub mod Plays
pub mod State
