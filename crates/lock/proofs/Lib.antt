pub mod Cards
pub mod Lines
pub mod Tables
