mod Places
mod Lent
mod Steps
mod Read
