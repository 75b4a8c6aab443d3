use Rattle.message_model.proofs.MessageArrivalLaws.{nothing_is_heard, message_fits}
use Rattle.message_model.proofs.reading_laws.a_message_that_is_read_fits.Goals as goal

pub returns : goal.returns
returns c = record {
  first = nothing_is_heard;
  fits = λ reg waits heard t m b sound is spelled. message_fits reg sound waits heard m b t is spelled;
}
