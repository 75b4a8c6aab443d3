-- What an end tells, as the definition of an end has it.
use Rattle.bridge_model.specs.Answers as answers
use Rattle.bridge_model.specs.Sides as plain
use Rattle.bridge_state.specs.declared.telling.Counts.{Counts}
use Rattle.bridge_state.specs.declared.telling.RootState.{RootState}
use Rattle.bridge_state.specs.declared.telling.RootState.TheVariants.{Idle, Waits, Answered}

abbrev pub counts_told : Counts → answers.Counts
counts_told c = record { stubs = c.stubs; proxies = c.proxies; objects = c.objects }

-- what a root does, whatever it waits for or got
abbrev pub state_told : plain.RootState → RootState
state_told plain.idle = Idle
state_told plain.waits_call = Waits
state_told (plain.waits_query wanted) = Waits
state_told (plain.answered o) = Answered
