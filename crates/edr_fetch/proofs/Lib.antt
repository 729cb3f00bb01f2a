pub mod RequestLemmas
pub mod HeadLemmas
pub mod HeardLemmas
pub mod ExchangeLemmas
