pub mod Limits
pub mod Words
pub mod Settled
pub mod Helps
pub mod Saying
pub mod SayingLaws
