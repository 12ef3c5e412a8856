mod Bits
mod Product
mod Words
