pub mod Cuts
pub mod Fronts
pub mod Lines
pub mod Numerals
pub mod Reading
pub mod Unique
pub mod Values
