mod Laws
mod Seats
mod Keeps
mod Calls
mod Places
mod Giving
