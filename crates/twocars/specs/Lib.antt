pub mod Agreement
pub mod Replies
