mod Parts
mod Closes
mod Raised
mod Carried
mod Decided
mod States
mod GoingOn
mod Steps
