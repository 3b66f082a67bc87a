pub mod Record
pub mod Kinship
