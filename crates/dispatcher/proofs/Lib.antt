mod Steps
mod Last
mod Enough
mod Ready
mod Gathering
mod Standing
mod Entering
mod Knowing
