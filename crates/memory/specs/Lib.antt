pub mod Numbers
pub mod Meaning
pub mod Calls
pub mod Isolation
pub mod Lasting
pub mod Examples
pub mod Few
pub mod Logs
