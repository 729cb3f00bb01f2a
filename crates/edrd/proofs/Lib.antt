pub mod JobLemmas
pub mod RunLemmas
pub mod EndLemmas
pub mod SayLemmas
