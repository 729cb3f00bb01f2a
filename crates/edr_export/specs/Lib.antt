pub mod Exports
pub mod Documents
