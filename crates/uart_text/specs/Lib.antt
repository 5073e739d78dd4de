pub mod Left
pub mod Line
pub mod Number
pub mod Scan
pub mod Words
