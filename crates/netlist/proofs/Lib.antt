pub mod Determined
pub mod Examples
pub mod Loops
