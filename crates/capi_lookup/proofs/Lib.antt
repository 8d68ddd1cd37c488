mod Bounds
mod Versions
mod Explanations
