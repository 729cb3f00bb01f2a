pub mod Doors
pub mod Serving
pub mod Jobs
pub mod Closing
pub mod Ends
pub mod Shelving
pub mod Feeding
