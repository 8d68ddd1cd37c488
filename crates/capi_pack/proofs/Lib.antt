mod Entries
mod Scans
