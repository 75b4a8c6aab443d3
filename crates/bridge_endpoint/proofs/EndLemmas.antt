-- Ends of the bridge.
use Rattle.std.proofs.Common.{◌≡◌, refl, sym, ap, ◌∙◌, ℕ, ◌<◌, ◌≤◌, ◌-◌, ◌^◌, Bool, true, false, not, Option, None, Some, ◌||◌, nat_lt, arith}
use Rattle.std.proofs.lemmas.Bool.{false≢true}
use Rattle.std.proofs.lemmas.Bool.Decides.{nat_tests}
use Rattle.bridge_journal.specs.Logs.{Log, entered}
use Rattle.bridge_model.specs.Ends.{ends_by, runs_out}
use Rattle.bridge_model.specs.Entries.{Entry, disposed, full, no_memory}
use Rattle.bridge_model.specs.Settings.{Setting}
use Rattle.bridge_model.specs.Sides.{Side, stands, stands_by}
use Rattle.bridge_model.specs.Steps.{counted, does, has_entries, has_fed, is_no_memory, may, most_entries}
use Rattle.bridge_model.specs.declared.cause.Cause.{Cause}
use Rattle.bridge_model.specs.declared.cause.Cause.TheVariants as cause
use Rattle.bridge_model.specs.declared.input_end.InputEnd.{InputEnd}
use Rattle.bridge_model.specs.declared.input_end.InputEnd.TheVariants as how
use Rattle.bridge_laws.specs.Room.{is_free}
use Rattle.bridge_state.specs.EndSides.{EndSide, on_side, with_side}
use Rattle.bridge_laws.specs.Giving.{MayGive}
use Rattle.bridge_endpoint.specs.Kept.{IsKept}
use Rattle.bridge_endpoint.proofs.KeptLaws.{free_kept, free_room, kept_few}
use Rattle.bridge_endpoint.specs.Entering.{counts_one, how_cause, how_ended}

-- ---- an entry that takes no memory

pub few : {g : Setting} {roots : ℕ} {e : EndSide} {l : Log} → IsKept g roots e l → e.side.entries < 2 ^ 64 - 1
few {g} {roots} {e} {l} kept = kept_few g roots e l kept

-- ---- ends of a bridge that stands

-- by the input, by a call, and by a limit
pub record IsEnd (g : Setting) (x : Entry) (why : Cause) : Type 0 where
  pub free : is_free x ≡ true
  pub gives : MayGive g x
  pub does_end : (s : Side) → counted x (does g x s).side ≡ counts_one (ends_by why s)

pub is_input_end : (g : Setting) (h : InputEnd) → IsEnd g (how_ended h) (how_cause h)
unfolding does
is_input_end g how.Ended = record { free = refl; gives = tt; does_end = λ s. refl }
is_input_end g how.Failed = record { free = refl; gives = tt; does_end = λ s. refl }

pub is_disposal : (g : Setting) → IsEnd g disposed cause.Disposed
unfolding does
is_disposal g = record { free = refl; gives = tt; does_end = λ s. refl }

pub is_limit : (g : Setting) → IsEnd g full cause.Full
unfolding does
is_limit g = record { free = refl; gives = tt; does_end = λ s. refl }

pub may_end_input : (g : Setting) (s : Side) (h : InputEnd) → stands s ≡ true → may g s (how_ended h) ≡ true
unfolding may
may_end_input g s how.Ended up = up
may_end_input g s how.Failed up = up

pub may_dispose : (g : Setting) (s : Side) → stands s ≡ true → may g s disposed ≡ true
unfolding may
may_dispose g s up = up

pub may_fill : (g : Setting) (s : Side) → stands s ≡ true → (has_entries s || has_fed s) ≡ true → may g s full ≡ true
unfolding may
may_fill g s up is = rw (up) is

pub may_fill_entries : (g : Setting) (s : Side) → stands s ≡ true → has_entries s ≡ true → may g s full ≡ true
may_fill_entries g s up many = may_fill g s up (rw (many) refl)

-- the limit of entries
pub filled : (s : Side) (n : ℕ) → n ≡ s.entries → 1000000 ≤ n → has_entries s ≡ true
unfolding most_entries
filled s n is many = let most : 1000000 ≤ s.entries = omega (arith, is, many) in ap not (at_least s.entries most)
  where
    at_least : (m : ℕ) → 1000000 ≤ m → nat_lt m 1000000 ≡ false
    at_least m most = grind (arith, nat_tests)

pub not_filled : (s : Side) (n : ℕ) → n ≡ s.entries → n < 1000000 → has_entries s ≡ false
unfolding most_entries
not_filled s n is few = let less : s.entries < 1000000 = omega (arith, is, few) in ap not (below s.entries less)
  where
    below : (m : ℕ) → m < 1000000 → nat_lt m 1000000 ≡ true
    below m less = grind (arith, nat_tests)

module _ {g : Setting} {roots : ℕ} {e : EndSide} {l : Log} (kept : IsKept g roots e l) (x : Entry) (why : Cause) (end : IsEnd g x why) (fine : may g e.side x ≡ true) where
  pub end_room : 0 < l.room
  end_room = free_room g roots e l x kept fine end.free

  pub end_kept : (f : EndSide) (after : Log) → f ≡ on_side (λ s. counts_one (ends_by why s)) e → after ≡ entered x l → IsKept g roots f after
  end_kept f after is done = free_kept g roots e l x f after kept fine end.free end.gives (is ∙ ap (λ s. with_side s e) (sym (end.does_end e.side))) done

-- ---- want of memory

module _ {g : Setting} {roots : ℕ} {e : EndSide} {l : Log} (kept : IsKept g roots e l) (more : is_no_memory e.side.cause ≡ false) where
  may_run_out : may g e.side no_memory ≡ true
  unfolding may
  may_run_out = ap not more

  pub out_room : 0 < l.room
  out_room = free_room g roots e l no_memory kept may_run_out refl

  pub out_kept : (f : EndSide) (after : Log) → f ≡ on_side (λ s. counts_one (runs_out s.cause s)) e → after ≡ entered no_memory l → IsKept g roots f after
  unfolding does
  out_kept f after is done = free_kept g roots e l no_memory f after kept may_run_out refl tt is done

-- ---- causes

pub ended_stands : (o : Option Cause) (b : Bool) → stands_by o ≡ b → b ≡ true → o ≡ None
ended_stands None b is up = refl
ended_stands (Some why) b is up = absurd (false≢true (is ∙ up))

pub stands_more : (o : Option Cause) → stands_by o ≡ true → is_no_memory o ≡ false
stands_more None up = refl
stands_more (Some why) up = absurd (false≢true up)
