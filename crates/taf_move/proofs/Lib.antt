-- The laws of the move: what can be moved, what comes of it, and the two round trips.
pub mod Fits
pub mod Again
pub mod RoundTrip
