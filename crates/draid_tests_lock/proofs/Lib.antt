mod Apart
mod Moves
mod OwnNumbers
mod TwoTurns
