pub mod Limits
pub mod Pairs
pub mod PairLaws
pub mod Entries
pub mod Lending
pub mod Gathering
pub mod GatheringLaws
pub mod Gatherings
