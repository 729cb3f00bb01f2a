pub mod Made
pub mod MadeParts
