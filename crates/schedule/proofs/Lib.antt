pub mod Fronts
pub mod Sized
pub mod Once
pub mod Progress
