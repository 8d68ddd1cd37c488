mod Heads
mod Codes
mod Updates
mod Maps
mod Integers
mod Forms
mod Widths
