pub mod Marks
pub mod Splits
pub mod Cuts
pub mod Through
pub mod Whole
pub mod Digits
pub mod Standing
pub mod Bounds
