mod Giving
mod Opening
mod SayingLemmas
