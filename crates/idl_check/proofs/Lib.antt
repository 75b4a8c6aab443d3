mod ChangedLemmas
mod EachLemmas
mod FileLemmas
mod GraphLemmas
mod RegistryLemmas
mod ToldLemmas
mod VerdictLemmas
