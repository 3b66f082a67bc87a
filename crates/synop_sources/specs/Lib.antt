pub mod Trail
pub mod Items
pub mod Walk
