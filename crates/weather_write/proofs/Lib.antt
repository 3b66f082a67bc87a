pub mod Triples
pub mod Spelling
