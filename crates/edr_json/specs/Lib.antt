pub mod Json
pub mod Trees
pub mod ReadTrees
pub mod AnswerLaws
pub mod TreeLaws
pub mod ReadTreeLaws
