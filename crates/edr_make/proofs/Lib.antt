pub mod MadeLists
pub mod MadeHeads
pub mod MadeTexts
