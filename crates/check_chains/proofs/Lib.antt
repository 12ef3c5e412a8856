mod Longs
mod Rounds
