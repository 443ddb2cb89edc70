pub mod Asking
pub mod Served
pub mod Readers
