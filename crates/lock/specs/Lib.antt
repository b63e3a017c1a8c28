pub mod Faults
pub mod Tables
pub mod Lock
pub mod Locks
pub mod Lines
