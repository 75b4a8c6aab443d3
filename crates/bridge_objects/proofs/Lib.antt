mod Gaining
mod Lists
mod Marking
mod NextFace
mod Numbers
mod Seen
