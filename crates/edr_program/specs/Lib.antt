pub mod Lines
pub mod Numbers
pub mod FileReads
pub mod Versions
pub mod TellsLaws
