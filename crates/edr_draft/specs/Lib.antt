pub mod Series
pub mod Parameters
pub mod Changes
pub mod Outcomes
pub mod Steps
