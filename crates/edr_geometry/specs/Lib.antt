pub mod Limits
pub mod Lines
pub mod Masks
pub mod Planar
pub mod Ranges
pub mod Rows
pub mod Spans
pub mod Ways
