pub mod Refusals
pub mod Meaning
pub mod Making
pub mod Snapshot
pub mod InverseLog
pub mod LogSteps
