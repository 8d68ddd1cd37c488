mod Roles
mod Places
mod Visits
mod Comparisons
