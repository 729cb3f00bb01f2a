pub mod Requests
pub mod Heads
pub mod Exchanges
pub mod Outcomes
