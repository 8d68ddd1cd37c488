mod Calls
mod ReadBacks
