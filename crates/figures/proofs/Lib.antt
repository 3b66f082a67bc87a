pub mod Puts
pub mod Fields
pub mod Figures
pub mod Signs
pub mod Every
pub mod Impossible
pub mod Loops
