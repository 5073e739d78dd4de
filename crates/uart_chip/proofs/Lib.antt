pub mod Files
pub mod Flags
pub mod Places
pub mod Updates
pub mod Writes
