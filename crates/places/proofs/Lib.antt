-- What the proofs of several functions use, and the laws for other crates.
pub mod Seek
pub mod Rows
pub mod Fits
pub mod Going
pub mod Loop
pub mod ReadBack
pub mod Words
pub mod Sizes
pub mod Kept
pub mod Lift
pub mod Parts
pub mod Turns
pub mod Delivered
pub mod Laid
