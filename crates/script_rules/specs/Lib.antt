pub mod Asking
pub mod Lines
pub mod Names
pub mod Output
pub mod Run
pub mod Workers
