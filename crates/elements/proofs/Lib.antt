pub mod Answers
pub mod Fills
pub mod Lists
pub mod Scanned
pub mod Classed
