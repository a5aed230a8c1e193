mod Chunking
mod Ordered
mod Stories
