mod Places
mod Comparisons
mod Candidates
mod Passes
mod Deletions
mod Turns
mod Searches
mod Refusals
