pub mod Achievements
pub mod Heads
pub mod Judgements
pub mod Products
pub mod Unique
pub mod Worked
