-- Laws that the proofs of several printers use.
pub mod Writings
