pub mod Left
pub mod Said
