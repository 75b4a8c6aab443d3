-- What is kept once an entry is made, or once what was begun is lost.
use Rattle.std.proofs.Common.{◌≡◌, refl, sym, ap, subst, ◌∙◌, ℕ, ◌-◌, ◌<◌, ◌≤◌, ◌^◌, true, false, map, Option, None, Some, not, arith}
use Rattle.std.proofs.lemmas.Bool.{false≢true}
use Rattle.bridge_journal.specs.Logs.{Log, entered}
use Rattle.bridge_model.specs.Ends.{ends_by, runs_out, state_at_end}
use Rattle.bridge_model.specs.Entries.{Entry, no_memory}
use Rattle.bridge_model.specs.Settings.{Setting}
use Rattle.bridge_model.specs.Sides.{Side, stands, stands_by}
use Rattle.bridge_model.specs.Steps.{does, is_no_memory, may}
use Rattle.bridge_model.specs.declared.cause.Cause.{Cause}
use Rattle.bridge_model.specs.declared.cause.Cause.TheVariants as cause
use Rattle.bridge_state.specs.EndSides.{EndSide, on_side, with_side}
use Rattle.bridge_state.specs.Undoing.{remains}
use Rattle.bridge_endpoint.specs.Kept.{IsKept}
use Rattle.bridge_endpoint.proofs.KeptLaws.{free_kept, free_room, kept_at, kept_few, more_room}
use Rattle.bridge_endpoint.specs.Entering.{IsWithin, counts_one, with_room}
use Rattle.bridge_endpoint.specs.Journals.{Endpoint, seen, setting_at, side_at, with_entry}
use Rattle.bridge_setting.specs.Settings.{setting_of}
use Rattle.bridge_setting.specs.declared.setting.Setting.{Setting as Configured}

-- ---- the side to which the journal leads

pub at : {c : Configured} {roots : ℕ} {e : EndSide} {l : Log} {now : Endpoint} → IsKept (setting_of c) roots e l → seen c l ≡ now → side_at now ≡ e.side
at {c} {roots} {e} {l} {now} kept is = ap side_at (sym is) ∙ kept_at c roots e l kept

-- ---- an entry

-- it is seen behind the others
pub entry_seen : {c : Configured} {now : Endpoint} (l : Log) (x : Entry) (after : Log) → seen c l ≡ now → after ≡ entered x l → seen c after ≡ with_entry x now
entry_seen {c} l x after is done = ap (seen c) done ∙ ap (with_entry x) is

pub entry_seen_with : {c : Configured} {now : Endpoint} (l : Log) (x : Entry) (room : ℕ) (after : Log) → seen c l ≡ now → after ≡ with_room room (entered x l) → seen c after ≡ with_entry x now
entry_seen_with {c} l x room after is done = ap (seen c) done ∙ ap (with_entry x) is

-- ---- what was begun is lost

-- what rests when the bridge ends for want of memory is as it was; nothing was entered, and no room was lost
pub record IsLost (e f : EndSide) (l after : Log) : Type 0 where
  pub rest : runs_out f.side.cause f.side ≡ runs_out e.side.cause e.side
  pub names : f ≡ with_side f.side e
  pub nothing : after ≡ with_room after.room l
  pub least : l.room ≤ after.room
  pub within : IsWithin after

pub out_entries : (o : Option Cause) (s : Side) → (runs_out o s).entries ≡ s.entries
unfolding runs_out ends_by
out_entries None s = refl
out_entries (Some why) s = refl

module _ {g : Setting} {roots : ℕ} {e f : EndSide} {l after : Log} (kept : IsKept g roots e l) (lost : IsLost e f l after) where
  pub lost_few : f.side.entries < 2 ^ 64 - 1
  lost_few =
      let same : f.side.entries ≡ e.side.entries = sym (out_entries f.side.cause f.side) ∙ ap (λ s. s.entries) lost.rest ∙ out_entries e.side.cause e.side in
      let few = kept_few g roots e l kept in omega (arith, same, few)

  may_run_out : is_no_memory e.side.cause ≡ false → may g e.side no_memory ≡ true
  unfolding may
  may_run_out more = ap not more

  pub lost_room : is_no_memory e.side.cause ≡ false → 0 < after.room
  lost_room more = let some = free_room g roots e l no_memory kept (may_run_out more) refl in let least = lost.least in omega (arith, some, least)

  -- the bridge ends for it, in its room
  module _ (more : is_no_memory e.side.cause ≡ false) (out : EndSide) (behind : Log) (ended : out ≡ on_side (λ s. counts_one (runs_out s.cause s)) f) (done : behind ≡ entered no_memory after) where
    same_end : out ≡ with_side (counts_one (runs_out e.side.cause e.side)) e
    same_end = ended ∙ ap (λ s. with_side (counts_one s) f) lost.rest ∙ ap (with_side (counts_one (runs_out e.side.cause e.side))) lost.names

    pub lost_kept : IsKept g roots out behind
    unfolding does
    lost_kept =
        let same : after.entries ≡ l.entries = ap (λ x. x.entries) lost.nothing in
        let held = more_room g roots e l after kept same lost.least lost.within in
        free_kept g roots e after no_memory out behind held (may_run_out more) refl tt same_end done

    pub lost_seen : {c : Configured} {now : Endpoint} → seen c l ≡ now → seen c behind ≡ with_entry no_memory now
    lost_seen {c} is = entry_seen after no_memory behind (ap (seen c) lost.nothing ∙ is) done

-- what remains is what is left where the bridge ends for want of memory
from_remains : Side → Side
from_remains s = record s { tables = record s.tables { roots = map (state_at_end cause.NoMemory) s.tables.roots }; cause = Some cause.NoMemory }

remains_out : (o : Option Cause) (s : Side) → stands_by o ≡ true → runs_out o s ≡ from_remains (remains s)
unfolding runs_out ends_by from_remains
remains_out None s up = refl
remains_out (Some why) s up = absurd (false≢true up)

pub out_by_remains : (s t : Side) → stands s ≡ true → remains t ≡ remains s → runs_out t.cause t ≡ runs_out s.cause s
out_by_remains s t up same =
    let cause : t.cause ≡ s.cause = ap (λ x. x.cause) same in
    remains_out t.cause t (ap stands_by cause ∙ up) ∙ ap from_remains same ∙ sym (remains_out s.cause s up)

-- ---- what holds of the parts, and of the endpoint

pub to_now : {c : Configured} {roots : ℕ} {e : EndSide} {l : Log} {now : Endpoint} (P : Setting → Side → Type 0) → IsKept (setting_of c) roots e l → seen c l ≡ now → P (setting_of c) e.side → P (setting_at now) (side_at now)
to_now {c} {roots} {e} {l} {now} P kept is p = subst (λ (x : Endpoint). P (setting_at x) (side_at x)) is (subst (P (setting_of c)) (sym (kept_at c roots e l kept)) p)

pub from_now : {c : Configured} {roots : ℕ} {e : EndSide} {l : Log} {now : Endpoint} (P : Setting → Side → Type 0) → IsKept (setting_of c) roots e l → seen c l ≡ now → P (setting_at now) (side_at now) → P (setting_of c) e.side
from_now {c} {roots} {e} {l} {now} P kept is p = subst (P (setting_of c)) (kept_at c roots e l kept) (subst (λ (x : Endpoint). P (setting_at x) (side_at x)) (sym is) p)

-- so is what a call says that found no memory
pub lost_by : {g : Setting} {roots : ℕ} {e : EndSide} {l : Log} → IsKept g roots e l → stands e.side ≡ true → (f : EndSide) (after : Log) → remains f.side ≡ remains e.side → f ≡ with_side f.side e
    → after ≡ with_room after.room l → l.room ≤ after.room → (IsWithin l → IsWithin after) → IsLost e f l after
lost_by {g} {roots} {e} {l} kept up f after same names nothing least within =
    record { rest = out_by_remains e.side f.side up same; names = names; nothing = nothing; least = least; within = within kept.within }

-- where its state is as it was
pub lost_same : {g : Setting} {roots : ℕ} {e : EndSide} {l : Log} → IsKept g roots e l → (f : EndSide) (after : Log) → f ≡ e → after ≡ with_room after.room l → l.room ≤ after.room → (IsWithin l → IsWithin after)
    → IsLost e f l after
lost_same {g} {roots} {e} {l} kept f after same nothing least within =
    record { rest = ap (λ y. runs_out y.side.cause y.side) same; names = same ∙ ap (λ y. with_side y.side e) (sym same); nothing = nothing; least = least; within = within kept.within }
