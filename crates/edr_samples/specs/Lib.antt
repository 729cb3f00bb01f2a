pub mod Trees
pub mod Tokens
pub mod Codes
pub mod Turns
pub mod Lexemes
pub mod Plain
