pub mod Answering
pub mod Playing
pub mod Once
pub mod Promised
