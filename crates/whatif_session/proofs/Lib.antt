mod Rings
mod Starts
mod Sounds
mod Booked
mod Steps
mod Followed
