mod Alike
mod Answered
mod Batches
pub mod Calling
mod Emptied
mod Given
mod Instance
mod Laid
pub mod Led
pub mod Looping
pub mod Ordering
mod Pinned
mod Rotation
mod Scanned
mod Starting
pub mod Stepping
mod Told
mod Untold
mod Wholeness
mod Written
