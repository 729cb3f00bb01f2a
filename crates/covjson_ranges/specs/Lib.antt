pub mod Laws
pub mod RangeRows
pub mod RangeAnswers
pub mod Orders
pub mod Ranges
