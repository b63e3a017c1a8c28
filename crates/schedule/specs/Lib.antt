pub mod Schedules
pub mod Sections
