pub mod Book
pub mod Promise
pub mod Answers
pub mod Resends
pub mod History
pub mod Recounts
pub mod Boards
