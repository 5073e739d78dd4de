pub mod Banks
pub mod Cores
pub mod Gates
pub mod Made
pub mod Selected
pub mod Wires
