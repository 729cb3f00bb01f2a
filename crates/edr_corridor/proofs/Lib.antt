mod KnownLines
pub mod Near
pub mod Halves
pub mod Lines
pub mod NearNodes
pub mod Added
