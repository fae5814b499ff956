pub mod Room
pub mod Lending
pub mod Pair
