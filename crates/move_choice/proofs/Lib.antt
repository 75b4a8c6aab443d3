pub mod ChoosingLemmas
