mod Agreeing
mod Steps
