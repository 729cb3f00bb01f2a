pub mod CollectionInstances
pub mod TallySteps
pub mod PackedGrids
pub mod NewestLaws
pub mod HeldLaws
pub mod ShelfLaws
