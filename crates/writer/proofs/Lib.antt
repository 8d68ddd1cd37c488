mod Chains
mod Sizes
mod Fixed
mod Composites
mod Headers
mod Stores
mod Parts
mod Calls
