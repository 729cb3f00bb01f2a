pub mod HeadLemmas
pub mod HeadTextLemmas
pub mod PlaceLemmas
pub mod ValueLemmas
pub mod SendLemmas
pub mod AxisItems
