pub mod Contents
pub mod Lexemes
pub mod Grammar
pub mod Puts
pub mod TreesOfTexts
