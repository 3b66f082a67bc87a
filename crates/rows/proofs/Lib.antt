-- What the proofs of the search use.
pub mod First
