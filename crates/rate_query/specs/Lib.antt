pub mod Asking
pub mod Chips
pub mod Errors
pub mod Reading
