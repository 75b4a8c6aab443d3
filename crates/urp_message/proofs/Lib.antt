pub mod ListeningLemmas
pub mod ParamLemmas
pub mod RaisedLemmas
pub mod RaisingLemmas
pub mod SpeakingLemmas
pub mod SayingLemmas
pub mod ValueLemmas
