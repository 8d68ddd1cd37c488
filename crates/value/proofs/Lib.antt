mod Lookups
mod Keys
mod Headers
