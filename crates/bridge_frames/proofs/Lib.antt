mod AnsweredLemmas
mod BackLemmas
mod CallLemmas
mod CreatingLemmas
mod EffectLemmas
mod EndingLemmas
mod GoingLemmas
mod HandingLemmas
mod LastingLemmas
mod OwnLemmas
mod RootBackLemmas
pub mod StackLemmas
