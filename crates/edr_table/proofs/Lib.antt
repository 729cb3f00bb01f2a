pub mod GatherLemmas
pub mod LineLemmas
pub mod TurnLemmas
pub mod DomainLemmas
