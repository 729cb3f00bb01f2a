pub mod Pieces
pub mod HeadTexts
pub mod Writers
pub mod PieceLaws
pub mod Laws
