pub mod Values
pub mod Rule
