mod Lines
mod Read
mod WordLists
