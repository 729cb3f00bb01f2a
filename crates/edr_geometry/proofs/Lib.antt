mod KnownRows
pub mod Whole
pub mod EdgeLemmas
pub mod CutLemmas
pub mod Filled
pub mod LeftOf
pub mod Placed
pub mod Outside
pub mod Products
pub mod SpanLemmas
pub mod StripLemmas
pub mod StripNumbers
pub mod Aside
