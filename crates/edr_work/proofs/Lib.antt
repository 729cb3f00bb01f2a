pub mod FeedLemmas
pub mod CountLemmas
pub mod TargetLemmas
pub mod LineLemmas
