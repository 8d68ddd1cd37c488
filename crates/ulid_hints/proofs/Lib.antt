mod Stores
mod Shows
