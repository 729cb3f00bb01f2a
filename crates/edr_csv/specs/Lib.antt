pub mod Tables
pub mod Rows
pub mod Observations
pub mod Gathering
pub mod Turns
pub mod Forms
pub mod Notes
