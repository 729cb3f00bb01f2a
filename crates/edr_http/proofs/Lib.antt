pub mod HeadLemmas
pub mod RestLemmas
pub mod HeldLemmas
pub mod CheckLemmas
pub mod ReplyLemmas
pub mod ChunkFrames
pub mod ChunkSteps
pub mod ChunkEnds
