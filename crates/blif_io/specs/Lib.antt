pub mod Reader
pub mod Session
pub mod Taking
pub mod Writing
