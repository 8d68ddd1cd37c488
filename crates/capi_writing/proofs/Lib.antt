mod Bounds
mod Identities
