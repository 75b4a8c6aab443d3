-- What the calls of an end answer to a deed, as what the deed is listed to do.
use Rattle.std.proofs.Common.{◌≡◌, refl, ap, ◌∙◌, ℕ, ◌-◌, ◌<◌, ◌≤◌, ◌^◌, List, length, slice_get, Option, None, Some, IfSome, Result, Ok, Err, OnOk}
use Rattle.bridge_core.specs.declared.side.Side.{Side}
use Rattle.bridge_core.specs.declared.side.Side.TheVariants as code
use Rattle.bridge_endpoint.specs.Journals.{Endpoint, with_entry}
use Rattle.bridge_model.specs.Answers.{may_reap}
use Rattle.bridge_model.specs.Entries.{reaped}
use Rattle.bridge_model.specs.Settings.{Setting}
use Rattle.bridge_model.specs.Sides as end
use Rattle.move_choice.specs.Choosing.{counted}
use Rattle.move_choice.specs.declared.choices.Deed as named
use Rattle.world_model.specs.Moves.{Deed, Move, Progress}
use Rattle.plan_model.specs.Roots.{Run}
use Rattle.world_model.specs.declared.side.Side.TheVariants.{A}
use Rattle.bridge_world.specs.Doing.{IsDeedIn, IsDone, IsMoved, deeds_in}
use Rattle.bridge_world.specs.Joined.{Joined, settings_of, world_of}
use Rattle.bridge_world.specs.Playing.{moves_of}
use Rattle.bridge_world.proofs.MovesLemmas.{at_first, at_second}

-- ---- answers

pub ok_then : {X E P Q : Type 0} (r : Result X E) → (P → Q) → OnOk r P → OnOk r Q
ok_then (Ok x) more is = more is
ok_then (Err e) more is = tt

pub ok_both : {X E P R Q : Type 0} (r : Result X E) → (P → R → Q) → OnOk r P → OnOk r R → OnOk r Q
ok_both (Ok x) more is also = more is also
ok_both (Err e) more is also = tt

-- the object that went is the one that might go
pub reaped_so : (g : Setting) (s : end.Side) (e f : Endpoint) (r : Option ℕ) → r ≡ may_reap g s → IfSome r (λ n. f ≡ with_entry (reaped n) e) → (n : ℕ) → may_reap g s ≡ Some n → f ≡ with_entry (reaped n) e
reaped_so g s e f None is entered n there = let bad : ◌≡◌ {A = Option ℕ} None (Some n) = is ∙ there in absurd (cc)
reaped_so g s e f (Some m) is entered n there = let same : ◌≡◌ {A = Option ℕ} (Some m) (Some n) = is ∙ there in let equal : m ≡ n = cc in entered ∙ ap (λ k. with_entry (reaped k) e) equal

-- ---- which deed it is

-- what a deed that is listed does
abbrev pub Does : (cut : ℕ) (s : Side) (deed : named.Deed) (j k : Joined) (before after : List Run) → Type 0
Does cut s deed j k before after = (place : ℕ) (d : Deed) → slice_get (deeds_in j s before) place ≡ Some d → IsDeedIn j s before d deed → IsDone cut s d j k before after

-- what code says of the deed at a place
abbrev pub Names : (s : Side) (nth : ℕ) (deed : named.Deed) (j : Joined) (rs : List Run) → Type 0
Names s nth deed j rs = (d : Deed) → slice_get (deeds_in j s rs) nth ≡ Some d → IsDeedIn j s rs d deed

module _ (cut : ℕ) (j k : Joined) (p : Progress) (after : List Run) (deed : named.Deed) where
  pub moved_a : (count nth : ℕ) → count ≡ counted (length (deeds_in j code.A p.a)) → nth < count → Names code.A nth deed j p.a → Does cut code.A deed j k p.a after
      → (m : Move) → slice_get (moves_of j p) nth ≡ Some m → IsMoved cut m j k p (record p { a = after })
  moved_a count nth is less names does m there =
      let found = at_first (settings_of j) (world_of j) p count nth m is less there in
      record { side = code.A; deed = found.0; is = found.2; does = does nth found.0 found.1 (names found.0 found.1); rest = refl }

  pub moved_b : (count nth rest : ℕ) → count ≡ counted (length (deeds_in j code.A p.a)) → nth < 2 ^ 32 - 1 → count ≤ nth → rest ≡ nth - count → Names code.B rest deed j p.b → Does cut code.B deed j k p.b after
      → (m : Move) → slice_get (moves_of j p) nth ≡ Some m → IsMoved cut m j k p (record p { b = after })
  moved_b count nth rest is small most left names does m there =
      let found = at_second (settings_of j) (world_of j) p count nth rest m is small most left there in
      record { side = code.B; deed = found.0; is = found.2; does = does rest found.0 found.1 (names found.0 found.1); rest = refl }
