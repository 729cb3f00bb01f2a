mod PairLemmas
mod EntryLemmas
mod UseLemmas
mod Walks
