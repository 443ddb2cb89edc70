pub mod Kernel
pub mod Restored
