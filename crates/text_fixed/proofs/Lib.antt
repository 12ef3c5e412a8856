mod Divide
mod Point
