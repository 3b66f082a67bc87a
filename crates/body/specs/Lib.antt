pub mod Met
pub mod Said
