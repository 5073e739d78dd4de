pub mod Fifth
pub mod Fourth
