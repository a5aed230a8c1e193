pub mod Safety
pub mod Laws
