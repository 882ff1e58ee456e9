mod Exports
mod OnePass
mod Replied
mod Searches
