pub mod Undo
pub mod Standing
