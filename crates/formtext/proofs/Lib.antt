pub mod Appended
pub mod Exits
