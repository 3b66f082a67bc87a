pub mod Classes
pub mod DegreesLaws
pub mod Exactly
pub mod Figures
pub mod Rounds
