pub mod WordLemmas
pub mod SayLemmas
