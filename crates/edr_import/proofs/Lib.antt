pub mod OrderLemmas
pub mod TimeLemmas
pub mod SiteLemmas
pub mod ValueLemmas
pub mod ValidLemmas
pub mod FeedLemmas
pub mod LineLemmas
