pub mod Bit
pub mod Build
pub mod Lines
pub mod Whole
pub mod Ones
pub mod Rewritten
pub mod Exact
pub mod Samples
