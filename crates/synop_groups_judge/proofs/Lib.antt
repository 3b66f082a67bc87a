-- Laws that the proofs of several judgements use.
pub mod Judging
