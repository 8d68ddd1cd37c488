mod Parts
mod Places
mod Records
