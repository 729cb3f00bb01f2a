pub mod StationPlaces
pub mod StationPlans
pub mod CorridorPlans
pub mod Found
pub mod DocumentLaws
