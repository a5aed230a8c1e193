pub mod Names
pub mod Blobs
pub mod Maps
pub mod Order
pub mod Scanning
pub mod DiskCalls
pub mod Reading
