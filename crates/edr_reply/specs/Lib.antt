pub mod Messages
pub mod BrokenParts
pub mod Laws
pub mod Finding
pub mod Taking
