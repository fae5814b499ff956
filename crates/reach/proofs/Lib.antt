mod Finds
mod Ways
mod Listed
mod Flagged
mod Standing
mod Answered
