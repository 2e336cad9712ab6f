mod Divisors
mod Gathered
mod Surplus
mod Slacks
