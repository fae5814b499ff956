pub mod Netlist
pub mod Places
pub mod Refusals
pub mod Edits
pub mod Laws
