pub mod Kernel
pub mod Climbs
pub mod Counted
pub mod Written
pub mod Keeping
pub mod Holding
pub mod Numbered
pub mod Bodies
