-- Laws that the proofs of the writer use.
pub mod Writing
