pub mod Faults
pub mod Door
pub mod Doors
pub mod Runs
pub mod Kinds
