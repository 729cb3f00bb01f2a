pub mod WordLemmas
pub mod PositionLemmas
mod PushLemmas
pub mod ListLemmas
pub mod MemberLemmas
pub mod FaultLemmas
pub mod GatherLemmas
pub mod HeadingLemmas
pub mod BodyLemmas
pub mod CheckLemmas
pub mod WktLemmas
pub mod KeptLemmas
pub mod GeometryLemmas
pub mod SpellLemmas
pub mod AnswerLemmas
