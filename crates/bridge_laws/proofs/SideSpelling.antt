-- A side of which all can be carried by bytes: what was held, what frames have, what is said, and what came in.
use Rattle.std.proofs.Common.{ℕ, Bool, true, false, if◌then◌else◌, List, [], ◌∷◌, Option, None, Some, arith}
use Rattle.std.specs.List.{AllByRecursion}
use Rattle.urp_model.specs.Blocks.{AreBytes}
use Rattle.message_model.specs.Arriving.{IsHeard, HearsTexts}
use Rattle.message_model.specs.Messages.{Message}
use Rattle.message_model.proofs.MessageArrivalLaws.{nothing_is_heard}
use Rattle.message_model.proofs.SpellableMessageLaws.{no_texts_heard}
use Rattle.uno_model.specs.Entities.{Entity}
use Rattle.plan_model.specs.Frames.{Frame, Stack, is_of, frames_of}
use Rattle.bridge_model.specs.Calls.{Unwound}
use Rattle.bridge_model.specs.Ends.{tables_at_end, ends_by, runs_out}
use Rattle.bridge_model.specs.Going.{spells, spells_for, drains}
use Rattle.bridge_model.specs.Settings.{Setting}
use Rattle.bridge_model.specs.Sides.{Incoming, nothing_came, Tables, Outgoing, Side, with_tables}
use Rattle.bridge_model.specs.Stacks.{stack_with, puts_frames, with_unwound}
use Rattle.bridge_model.specs.declared.cause.Cause.{Cause}
use Rattle.bridge_model.specs.declared.cause.Cause.TheVariants as cause
use Rattle.bridge_laws.specs.Holding.{MessageGoes}
use Rattle.bridge_laws.proofs.HandingSpelling.{FramesSpellable, UnwoundSpellable}
use Rattle.bridge_laws.proofs.TableSpelling.{TablesSpellable, end_spellable}

-- ---- words

abbrev pub StackSpellable : Stack → Type 0
StackSpellable x = FramesSpellable x.frames

-- what came in: bytes, names that are remembered and fit, and are texts
pub record Comes (reg : List Entity) (i : Incoming) : Type 0 where
  pub held : AreBytes i.held
  pub heard : IsHeard reg i.heard
  pub texts : HearsTexts i.heard

-- with whatever is asked of what came in
pub record Sided (C : Incoming → Type 0) (t : Tables) (ss : List Stack) (i : Incoming) : Type 0 where
  pub tables : TablesSpellable t
  pub stacks : AllByRecursion StackSpellable ss
  pub comes : C i

abbrev pub SideSpellable : (Incoming → Type 0) → Side → Type 0
SideSpellable C s = Sided C s.tables s.stacks s.incoming

-- ---- stacks

frames_by : (b : Bool) (fs gs : List Frame) → FramesSpellable fs → FramesSpellable gs → FramesSpellable (if b then fs else gs)
frames_by true fs gs p q = p
frames_by false fs gs p q = q

pub thread_spellable : (tid : List ℕ) (ss : List Stack) → AllByRecursion StackSpellable ss → FramesSpellable (frames_of tid ss)
unfolding frames_of
thread_spellable tid [] all = tt
thread_spellable tid (s ∷ ss) all = frames_by (is_of tid s) s.frames (frames_of tid ss) all.0 (thread_spellable tid ss all.1)

stack_with_spellable : (tid : List ℕ) (fs : List Frame) (ss : List Stack) → FramesSpellable fs → AllByRecursion StackSpellable ss → AllByRecursion StackSpellable (stack_with tid fs ss)
stack_with_spellable tid [] ss fine all = all
stack_with_spellable tid (f ∷ fs) ss fine all = (fine, all)

put_by : (b : Bool) (new old : List Stack) (s : Stack) → AllByRecursion StackSpellable new → StackSpellable s → AllByRecursion StackSpellable old
    → AllByRecursion StackSpellable (if b then new else s ∷ old)
put_by true new old s p one q = p
put_by false new old s p one q = (one, q)

put_spellable : (tid : List ℕ) (fs : List Frame) (ss : List Stack) → FramesSpellable fs → AllByRecursion StackSpellable ss → AllByRecursion StackSpellable (puts_frames tid fs ss)
unfolding puts_frames
put_spellable tid fs [] fine all = stack_with_spellable tid fs [] fine tt
put_spellable tid fs (s ∷ ss) fine all =
    put_by (is_of tid s) (stack_with tid fs ss) (puts_frames tid fs ss) s (stack_with_spellable tid fs ss fine all.1) all.0 (put_spellable tid fs ss fine all.1)

-- ---- sides

pub unwound_spellable : (C : Incoming → Type 0) (tid : List ℕ) (u : Unwound) (s : Side) → UnwoundSpellable u → SideSpellable C s → SideSpellable C (with_unwound tid u s)
unwound_spellable C tid u s is fine = record { tables = is.tables; stacks = put_spellable tid u.frames s.stacks is.frames fine.stacks; comes = fine.comes }

pub tabled_spellable : (C : Incoming → Type 0) (t : Tables) (s : Side) → TablesSpellable t → SideSpellable C s → SideSpellable C (with_tables t s)
tabled_spellable C t s is fine = record { tables = is; stacks = fine.stacks; comes = fine.comes }

-- ---- the end

pub nothing_comes : (reg : List Entity) → Comes reg nothing_came
nothing_comes reg = record { held = λ i. omega arith; heard = nothing_is_heard reg; texts = no_texts_heard }

pub ends_spellable : (C : Incoming → Type 0) → C nothing_came → (why : Cause) (s : Side) → SideSpellable C s → SideSpellable C (ends_by why s)
unfolding ends_by
ends_spellable C nothing why s fine = record { tables = end_spellable why s.tables fine.tables; stacks = tt; comes = nothing }

forgotten : (t : Tables) → TablesSpellable t → TablesSpellable (record t { unsaid = [] })
forgotten t fine = record { fields = fine.fields; held = fine.held; states = fine.states; said = tt }

pub runs_out_spellable : (C : Incoming → Type 0) → C nothing_came → (why : Option Cause) (s : Side) → SideSpellable C s → SideSpellable C (runs_out why s)
unfolding runs_out ends_by
runs_out_spellable C nothing None s fine =
    record { tables = forgotten (tables_at_end cause.NoMemory s.tables) (end_spellable cause.NoMemory s.tables fine.tables); stacks = tt; comes = nothing }
runs_out_spellable C nothing (Some why) s fine = record { tables = forgotten s.tables fine.tables; stacks = fine.stacks; comes = fine.comes }

-- ---- draining

rest_by : (reg : List Entity) (b : Bool) (n : ℕ) (m : Message) (ms : List Message) (o : Outgoing) → AllByRecursion MessageGoes (m ∷ ms)
    → AllByRecursion MessageGoes (spells_for reg n ms (spells reg m o)).unsaid
    → AllByRecursion MessageGoes (if b then spells_for reg n ms (spells reg m o) else record { outgoing = o; unsaid = m ∷ ms }).unsaid
rest_by reg true n m ms o all behind = behind
rest_by reg false n m ms o all behind = all

rest_spellable : (reg : List Entity) (n : ℕ) (ms : List Message) (o : Outgoing) → AllByRecursion MessageGoes ms → AllByRecursion MessageGoes (spells_for reg n ms o).unsaid
unfolding spells_for
rest_spellable reg n [] o all = tt
rest_spellable reg n (m ∷ ms) o all = rest_by reg _ n m ms o all (rest_spellable reg n ms (spells reg m o) all.1)

pub drains_spellable : (C : Incoming → Type 0) (g : Setting) (n : ℕ) (s : Side) → SideSpellable C s → SideSpellable C (drains g n s)
unfolding drains
drains_spellable C g n s fine =
    record {
      tables =
          record {
            fields = fine.tables.fields;
            held = fine.tables.held;
            states = fine.tables.states;
            said = rest_spellable g.registry n s.tables.unsaid s.outgoing fine.tables.said;
          };
      stacks = fine.stacks;
      comes = fine.comes;
    }
