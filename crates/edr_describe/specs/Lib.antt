pub mod Extents
pub mod Reaches
pub mod Descriptions
pub mod Describing
pub mod Answers
