pub mod Cells
pub mod Checks
pub mod Puts
pub mod Entered
pub mod Makes
