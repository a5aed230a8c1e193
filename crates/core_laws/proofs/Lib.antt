mod Filling
mod Played
mod LeftChunks
mod SavedBook
