pub mod AdminActs
pub mod Listings
pub mod FileRows
pub mod FilesTold
pub mod Forgotten
pub mod AnsweredBy
