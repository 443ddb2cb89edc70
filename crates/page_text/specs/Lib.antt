pub mod Edits
pub mod Marked
pub mod Page
pub mod Shown
pub mod Steps
pub mod Told
