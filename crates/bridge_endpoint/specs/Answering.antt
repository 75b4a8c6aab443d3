-- What a call answers, as the definition of an end has it. Want of memory is answered by whoever finds none.
use Rattle.std.specs.Prelude.{◌≡◌, ◌≢◌, ℕ, true, false, List, Some, Result, Ok, Err, option_map, if◌then◌else◌}
use Rattle.plan_model.specs.Frames.{Job}
use Rattle.plan_types.specs.Frames.{job_of}
use Rattle.bridge_model.specs.Answers.{pick}
use Rattle.bridge_model.specs.Settings.{Setting}
use Rattle.bridge_model.specs.Sides.{Side}
use Rattle.bridge_model.specs.Steps.{has_entries, is_no_memory}
use Rattle.bridge_model.specs.Answers as answers
use Rattle.bridge_state.specs.declared.telling.RootState.{RootState}
use Rattle.bridge_state.specs.declared.telling.RootState.TheVariants as state
use Rattle.bridge_endpoint.specs.declared.answers.Begun.{Begun}
use Rattle.bridge_endpoint.specs.declared.answers.Begun.TheVariants as begun
use Rattle.bridge_endpoint.specs.declared.answers.Fed.{Fed}
use Rattle.bridge_endpoint.specs.declared.answers.Fed.TheVariants as feeding
use Rattle.bridge_endpoint.specs.declared.answers.ApplyError.{ApplyError}
use Rattle.bridge_endpoint.specs.declared.answers.ApplyError.TheVariants as applying
use Rattle.bridge_endpoint.specs.declared.answers.Made.{Made}
use Rattle.bridge_endpoint.specs.declared.answers.Made.TheVariants as making

abbrev pub begun_told : Begun → answers.Begun
begun_told begun.Started = answers.started
begun_told begun.Answered = answers.answered_already
begun_told begun.NotHeld = answers.not_held
begun_told begun.Full = answers.at_limit_too
begun_told begun.Gone = answers.gone_already
begun_told begun.NoMemory = answers.no_room_left

-- what a root is answered that began something, by its state behind it
abbrev pub begun_state : RootState → Begun
begun_state state.Answered = begun.Answered
begun_state state.Idle = begun.Started
begun_state state.Waits = begun.Started

abbrev pub fed_told : Fed → answers.FeedAnswer
fed_told (feeding.Taken n) = answers.taken n
fed_told (feeding.Broken why place) = answers.broken why place
fed_told feeding.Full = answers.at_limit
fed_told feeding.Gone = answers.gone
fed_told feeding.NoMemory = answers.no_room

-- what a root is answered that makes an object
abbrev pub made_told : Made → answers.Begun
made_told (making.Made oid) = answers.started
made_told making.Full = answers.at_limit_too
made_told making.Gone = answers.gone_already
made_told making.NoMemory = answers.no_room_left

-- whatever it does: the end of the bridge, and then the limit, are tested alone
abbrev pub made_answer : Side → answers.Begun
made_answer s = answers.begun_at_end s.cause (if has_entries s then answers.at_limit_too else answers.started)

-- a new object has this identity
abbrev pub IsMadeOid : Made → List ℕ → Type 0
IsMadeOid (making.Made oid) identity = oid ≡ identity
IsMadeOid m identity = Unit

-- a statement is carried out where its job is the one that would be picked and the limit of entries is not reached; where another one would be picked, that one is
-- given; at the limit the job is the right one. Want of memory may be answered at any time, and where the bridge has ended for it nothing else can be: no job is picked then
abbrev pub AppliedSo : Setting → Side → Job → Result Unit ApplyError → Type 0
AppliedSo g s job (Ok u) = (pick g job.tid s ≡ Some job) × (has_entries s ≡ false)
AppliedSo g s job (Err (applying.Stale now)) = (option_map job_of now ≡ pick g job.tid s) × (pick g job.tid s ≢ Some job) × (is_no_memory s.cause ≡ false)
AppliedSo g s job (Err applying.Full) = (pick g job.tid s ≡ Some job) × (has_entries s ≡ true)
AppliedSo g s job (Err applying.NoMemory) = Unit
