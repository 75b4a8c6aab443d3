-- Endpoints: what an entry more tells, and turns one after the other.
use Rattle.std.proofs.Common.{◌≡◌, refl, sym, ap, subst, ◌∙◌, ℕ, Bool, true, false, List, Option, None, Some, Result, Ok, Err}
use Rattle.std.proofs.lemmas.Bool.{true≢false}
use Rattle.std.specs.Io.KnownBytes.{Appends}
use Rattle.plan_model.specs.Roots.{Run}
use Rattle.uno_io.specs.Fronts.{AppendsFront}
use Rattle.bridge_endpoint.specs.Journals.{Endpoint, setting_at, side_at, told_at}
use Rattle.bridge_model.specs.Entries.{Entry}
use Rattle.bridge_model.specs.Histories.{Leads}
use Rattle.bridge_core.specs.Moving.{with_any}
use Rattle.bridge_core.specs.Standing.{IsHistory}
use Rattle.bridge_laws.specs.Working.{AllIsDone}
use Rattle.answering.specs.Doing.{First, bytes_with}
use Rattle.answering.specs.Ends.{Did, DoesFirst, GoesOn, HaltsAt, IsSettled, TurnsSo}
use Rattle.answering.specs.Turning.{Turns, Halts}
use Rattle.answering.specs.declared.stopped.Halted.{Halted}
use Rattle.answering.specs.declared.stopped.Halted.TheVariants as halted
use Rattle.answering.proofs.ClosingLaws.{tells_one}
use Rattle.answering.proofs.RunningLaws.{did_roots}
use Rattle.answering.proofs.TurnLaws.{IsTold, first_turns, first_halts, no_turn, halts_here, turns_on, halts_behind}

-- its journal leads to what was told
abbrev pub IsLed : Endpoint → Type 0
IsLed e = Leads (setting_at e) e.entries (told_at e)

pub told_side : (e : Endpoint) → side_at e ≡ (told_at e).side
unfolding side_at
told_side e = refl

-- ---- an entry more

pub same_setting : (e f : Endpoint) (x : Option Entry) → f ≡ with_any x e → setting_at f ≡ setting_at e
same_setting e f None is = ap setting_at is
same_setting e f (Some y) is = ap setting_at is

pub is_told : (e f : Endpoint) (x : Option Entry) → IsLed e → IsLed f → f ≡ with_any x e → IsTold (setting_at e) (told_at e) (told_at f) x
is_told e f None before after is = ap told_at is
is_told e f (Some y) before after is =
    tells_one (setting_at e) e.entries (told_at e) (told_at f) y before (subst (λ (z : Endpoint). Leads (setting_at z) z.entries (told_at f)) is after)

pub led_as : (e f : Endpoint) → setting_at f ≡ setting_at e → IsLed f → Leads (setting_at e) f.entries (told_at f)
led_as e f same led = subst (λ g. Leads g f.entries (told_at f)) same led

-- ---- one turn

module _ {e f : Endpoint} {runs next : List Run} {old new : Option (List ℕ)} (known : IsHistory e) (after : IsLed f) where
  did_goes_on : (did : Did e f runs next) → Appends old new (bytes_with did.entry) → GoesOn e f runs next old new
  did_goes_on did taken =
      let same = same_setting e f did.entry did.entered in
      let first = subst (λ s. First (setting_at e) s runs next did.entry) (told_side e) did.first in
      record {
        setting = same;
        turns =
            first_turns (setting_at e) e.entries f.entries (told_at e) (told_at f) known.leads (led_as e f same after) first
            (is_told e f did.entry known.leads after did.entered) taken;
        roots = did_roots e known f runs next did;
      }

  did_halts : (did : Did e f runs next) → AppendsFront old new (bytes_with did.entry) → HaltsAt e runs old new
  did_halts did taken =
      let same = same_setting e f did.entry did.entered in
      let first = subst (λ s. First (setting_at e) s runs next did.entry) (told_side e) did.first in
      first_halts (setting_at e) e.entries f.entries (told_at e) (told_at f) known.leads (led_as e f same after) first
      (is_told e f did.entry known.leads after did.entered) taken

pub goes_nowhere : (e : Endpoint) (runs : List Run) (out : Option (List ℕ)) → GoesOn e e runs runs out out
goes_nowhere e runs out = record { setting = refl; turns = no_turn (setting_at e) (told_at e) runs out; roots = λ all. all }

-- all was done before
pub rests : (e f : Endpoint) (runs next : List Run) (old new : Option (List ℕ)) → AllIsDone (setting_at e) (side_at e) runs → next ≡ runs → f ≡ e → new ≡ old
    → GoesOn e f runs next old new × IsSettled f next
rests e f runs next old new done same_runs same_end same_out =
    subst
    (λ (z : Endpoint). GoesOn e z runs next old new × IsSettled z next)
    (sym same_end)
    (subst
    (λ rs. GoesOn e e runs rs old new × IsSettled e rs)
    (sym same_runs)
    (subst (λ o. GoesOn e e runs runs old o) (sym same_out) (goes_nowhere e runs old), subst (λ s. AllIsDone (setting_at e) s runs) (told_side e) done))

pub turned : (e f : Endpoint) (runs next : List Run) (old new : Option (List ℕ)) (r : Result Bool Halted) → IsHistory e → IsLed f → DoesFirst e f runs next old new r
    → TurnsSo e f runs next old new r
turned e f runs next old new (Ok true) known after does = (did_goes_on known after does.0 does.1, λ none. absurd (true≢false none))
turned e f runs next old new (Ok false) known after does = let still = rests e f runs next old new does.0 does.1 does.2 does.3 in (still.0, λ none. still.1)
turned e f runs next old new (Err halted.WriteFault) known after does = did_halts known after does.0 does.1
turned e f runs next old new (Err halted.NoMemory) known after does = subst (λ o. HaltsAt e runs old o) (sym does) (halts_here (setting_at e) (told_at e) runs old)

-- ---- turns one after the other

pub goes_further : {e f h : Endpoint} {runs next later : List Run} {old mid new : Option (List ℕ)} → GoesOn e f runs next old mid → GoesOn f h next later mid new
    → GoesOn e h runs later old new
goes_further {e} {f} {h} {runs} {next} {later} {old} {mid} {new} first second =
    record {
      setting = second.setting ∙ first.setting;
      turns = turns_on first.turns (subst (λ g. Turns g (told_at f) (told_at h) next later mid new) first.setting second.turns);
      roots = λ all. second.roots (first.roots all);
    }

pub goes_and_halts : {e f : Endpoint} {runs next : List Run} {old mid new : Option (List ℕ)} → GoesOn e f runs next old mid → HaltsAt f next mid new → HaltsAt e runs old new
goes_and_halts {e} {f} {runs} {next} {old} {mid} {new} first halts =
    halts_behind first.turns (subst (λ g. Halts g (told_at f) next mid new) first.setting halts)

pub halts_at_once : {e f : Endpoint} {runs next : List Run} {old new : Option (List ℕ)} → GoesOn e f runs next old new → HaltsAt e runs old new
halts_at_once {e} {f} {runs} {next} {old} {new} first = goes_and_halts first (halts_here (setting_at f) (told_at f) next new)
