pub mod KindLaws
pub mod ParameterLaws
pub mod FaultLaws
pub mod SeriesLaws
pub mod RefusalLaws
pub mod CollectionLaws
pub mod OutcomeLaws
pub mod StepLaws
