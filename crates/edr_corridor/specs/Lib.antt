pub mod Boxes
pub mod BoxLaws
pub mod Parts
pub mod Repeats
pub mod Segments
pub mod Values
