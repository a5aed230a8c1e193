pub mod Playing
pub mod Laws
