mod Keeping
mod Living
mod Marking
