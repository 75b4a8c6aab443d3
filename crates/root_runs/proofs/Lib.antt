mod LooseLemmas
mod NamingLemmas
mod OutsLemmas
mod TextLemmas
