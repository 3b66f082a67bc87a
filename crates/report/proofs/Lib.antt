-- What the proofs of the public calls share.
pub mod Names
pub mod Readings
pub mod Writes
