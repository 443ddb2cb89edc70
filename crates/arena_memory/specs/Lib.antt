pub mod Segments
pub mod Queues
pub mod Pages
pub mod Mappings
pub mod Marks
pub mod Row
pub mod Rows
