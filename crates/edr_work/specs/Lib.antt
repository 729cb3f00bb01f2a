pub mod Lines
pub mod Working
pub mod Faults
pub mod Counting
