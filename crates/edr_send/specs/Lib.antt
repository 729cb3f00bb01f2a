pub mod Bands
pub mod Filling
pub mod Gathered
pub mod Strips
pub mod SeriesTexts
pub mod SentReplies
pub mod Forms
pub mod Sending
