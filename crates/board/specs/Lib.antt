pub mod Kinds
pub mod Layout
pub mod Chain
pub mod Links
pub mod Board
pub mod Fanout
pub mod Standing
pub mod Stored
