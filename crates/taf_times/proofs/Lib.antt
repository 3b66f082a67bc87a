-- The laws of moments, of the periods that name them, and of a TAF that is moved.
pub mod Arithmetic
pub mod Kept
pub mod Moves
pub mod Loops
pub mod Examples
