pub mod Holding
pub mod Playing
pub mod Returning
pub mod Ticketless
