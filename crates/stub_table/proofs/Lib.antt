mod Number
mod Owed
