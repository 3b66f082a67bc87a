-- What the proof of the round trip shares.
pub mod Backs
