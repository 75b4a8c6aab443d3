mod GuessLemmas
mod LexingLemmas
mod MarkLemmas
mod NumberLemmas
mod PieceLemmas
mod RunLemmas
