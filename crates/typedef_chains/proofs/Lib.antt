mod ChainLemmas
mod KnownLemmas
