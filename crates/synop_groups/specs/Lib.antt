pub mod Position
pub mod Parts
pub mod Reads
pub mod Shows
pub mod Judge
pub mod Classes
pub mod MarkedRows
