mod ThreadLemmas
mod VariableLemmas
