pub mod Deferral
pub mod Own
