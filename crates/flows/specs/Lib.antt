pub mod Carriers
pub mod Looks
pub mod Places
pub mod Pairs
