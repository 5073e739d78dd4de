pub mod Percents
pub mod Places
