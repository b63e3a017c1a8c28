pub mod Numbers
pub mod Events
pub mod Faults
pub mod Lines
