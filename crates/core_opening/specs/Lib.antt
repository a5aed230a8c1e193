pub mod Opening
pub mod Booking
pub mod Stops
