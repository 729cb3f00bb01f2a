pub mod ReplyLaws
pub mod FaultLemmas
pub mod RefusalBodies
