mod ReadLemmas
mod Telling
