pub mod Reserving
mod Coming
mod Listing
mod Showing
mod Noting
mod Wanting
mod Lives
