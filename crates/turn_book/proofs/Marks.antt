-- What one view counts for.
use Rattle.std.proofs.Common.{◌≡◌, ◌≢◌, ℕ, suc, ◌+◌, ◌<◌, ◌≤◌, List, [], ◌∷◌, ◌++◌, length, set, sym, refl, ap, ◌∙◌, subst, ⊎_elim, arith}
use mathlib.Core.Option.{some}
use lib.ListN.{get_elem?}
use Rattle.atomic_table.proofs.Lists.{at_set}
use Rattle.turn_book.specs.declared.view.View.{View}
use Rattle.turn_book.specs.declared.view.Stage.{Stage}
use Rattle.turn_book.specs.declared.view.Stage.TheVariants.{Idle, Waits, Turns, Recorded, Numbered, Counted, Joined}
use Rattle.turn_book.specs.History.{same, times, numbers_of}
use Rattle.turn_book.specs.Steps.{spent}
use Rattle.turn_book.specs.Ruled.{pending, pends, beside, is_ticket, waiting, turning, counts, AtStage, weight, room_of, share, has_number, waits, Fits}
use Rattle.turn_book.proofs.Counts.{same_self, same_le, times_le}
use Rattle.turn_book.proofs.Makers.{fill, made_same}

pends_le : (n : ℕ) (st : Stage) → pends n st ≤ pending st
pends_le n Idle = omega arith
pends_le n (Waits t) = omega arith
pends_le n (Turns t) = omega arith
pends_le n (Recorded t) = omega arith
pends_le n (Numbered m) = same_le n m
pends_le n (Counted m) = same_le n m
pends_le n Joined = omega arith

beside_le : (st : Stage) → beside st ≤ 1
beside_le Idle = omega arith
beside_le (Waits t) = omega arith
beside_le (Turns t) = omega arith
beside_le (Recorded t) = omega arith
beside_le (Numbered m) = omega arith
beside_le (Counted m) = omega arith
beside_le Joined = omega arith

waiting_le : (st : Stage) → waiting st ≤ 1
waiting_le Idle = omega arith
waiting_le (Waits t) = omega arith
waiting_le (Turns t) = omega arith
waiting_le (Recorded t) = omega arith
waiting_le (Numbered m) = omega arith
waiting_le (Counted m) = omega arith
waiting_le Joined = omega arith

module _ {I : Type 0} where
  pub counts_some : (own : List (ℕ × List I)) (st : Stage) → 0 < length own → counts own st ≡ 1 + beside st
  counts_some [] st h = let bad : ⊥ = omega arith in absurd bad
  counts_some (p ∷ ps) st h = refl

  counts_le : (own : List (ℕ × List I)) (st : Stage) → counts own st ≤ length own + length own
  counts_le [] st = omega arith
  counts_le (p ∷ ps) st = let b : beside st ≤ 1 = beside_le st in omega arith

  none_owned : (own : List (ℕ × List I)) (st : Stage) → counts own st ≡ 0 → length own ≡ 0
  none_owned [] st e = refl
  none_owned (p ∷ ps) st e = let bad : ⊥ = omega arith in absurd bad

module _ {I F : Type 0} where
  number_le : (n : ℕ) (v : View I F) → has_number n v ≤ share v
  number_le n v =
      let a : times n (numbers_of v.own) ≤ length v.own = times_le n v.own in
      let b : pends n v.stage ≤ pending v.stage = pends_le n v.stage in
      omega arith

  pub weight_le : (v : View I F) → weight v ≤ share v + share v
  weight_le v = let a : counts v.own v.stage ≤ length v.own + length v.own = counts_le v.own v.stage in omega arith

  -- a view with no room and no number counts for nothing
  pub no_number : (n : ℕ) (v : View I F) → share v ≡ 0 → has_number n v ≡ 0
  no_number n v z = let a : has_number n v ≤ share v = number_le n v in omega arith

  pub no_weight : (v : View I F) → share v ≡ 0 → weight v ≡ 0
  no_weight v z = let a : weight v ≤ share v + share v = weight_le v in omega arith

  pub no_room : (v : View I F) → share v ≡ 0 → room_of v ≡ 0
  no_room v z = omega arith

  module _ {key : F} {log : List I} {makers : List ℕ} {served : ℕ} where
    pub no_share : (v : View I F) → Fits key log makers served v → weight v ≡ 0 → share v ≡ 0
    no_share v fits z =
        let none : length v.own ≡ 0 = none_owned v.own v.stage z in
        let s = fits.spent none in
        let a : v.room ≡ 0 = s.0 in
        let b : pending v.stage ≡ 0 = s.1 in
        omega arith

    pub waits_le : (v : View I F) → Fits key log makers served v → waits v ≤ share v
    waits_le v fits = by_own v.own refl
      where
        by_own : (own : List (ℕ × List I)) → own ≡ v.own → waits v ≤ share v
        by_own [] e = let none : length v.own ≡ 0 = ap length (sym e) in let c : waiting v.stage ≡ 0 = (fits.spent none).2 in omega arith
        by_own (p ∷ ps) e = let a : suc (length ps) ≡ length v.own = ap length e in let b : waiting v.stage ≤ 1 = waiting_le v.stage in omega arith

    pub spent_fits : Fits key log makers served spent
    spent_fits = record {
      seen = (log, refl);
      made = tt;
      fixed = λ h. (let bad : ⊥ = omega arith in absurd bad);
      spent = λ z. (refl, refl, refl);
      stage = tt;
    }

-- who has the turn has the ticket that is served
pub turn_holds : {I : Type 0} (served : ℕ) (log : List I) (makers : List ℕ) (seen : List I) (t : ℕ) (st : Stage) → AtStage served log makers seen st → served ≡ t → turning st ≤ is_ticket t st
turn_holds served log makers seen t Idle at e = omega arith
turn_holds served log makers seen t (Waits u) at e = omega arith
turn_holds served log makers seen t (Turns u) at e = let s : same t u ≡ 1 = ap (same t) (at.0 ∙ e) ∙ same_self t in omega arith
turn_holds served log makers seen t (Recorded u) at e = let s : same t u ≡ 1 = ap (same t) (at.0 ∙ e) ∙ same_self t in omega arith
turn_holds served log makers seen t (Numbered n) at e = omega arith
turn_holds served log makers seen t (Counted n) at e = omega arith
turn_holds served log makers seen t Joined at e = omega arith

-- the turn passes on: who does not have it is as before
pub stage_served : {I : Type 0} (served next : ℕ) (log : List I) (makers : List ℕ) (seen : List I) (st : Stage) → turning st ≡ 0 → AtStage served log makers seen st → AtStage next log makers seen st
stage_served served next log makers seen Idle z at = tt
stage_served served next log makers seen (Waits u) z at = tt
stage_served served next log makers seen (Turns u) z at = let bad : ⊥ = omega arith in absurd bad
stage_served served next log makers seen (Recorded u) z at = let bad : ⊥ = omega arith in absurd bad
stage_served served next log makers seen (Numbered n) z at = at
stage_served served next log makers seen (Counted n) z at = at
stage_served served next log makers seen Joined z at = tt

-- items are added by the maker m: who does not have the turn, nor this number, is as before
pub stage_grows : {I : Type 0} (served : ℕ) (log : List I) (makers : List ℕ) (seen : List I) (m : ℕ) (new : List I) (st : Stage) → length makers ≡ length log → turning st ≡ 0 → pends m st ≡ 0
    → AtStage served log makers seen st → AtStage served (log ++ new) (makers ++ fill m new) seen st
stage_grows served log makers seen m new Idle e z no_pending at = tt
stage_grows served log makers seen m new (Waits u) e z no_pending at = tt
stage_grows served log makers seen m new (Turns u) e z no_pending at = let bad : ⊥ = omega arith in absurd bad
stage_grows served log makers seen m new (Recorded u) e z no_pending at = let bad : ⊥ = omega arith in absurd bad
stage_grows served log makers seen m new (Numbered n) e z no_pending at = made_same n m makers log new e no_pending ∙ at
stage_grows served log makers seen m new (Counted n) e z no_pending at = made_same n m makers log new e no_pending ∙ at
stage_grows served log makers seen m new Joined e z no_pending at = tt

-- the other views fit, and so does the one that changes
pub fits_set : {I F : Type 0} (key : F) (log : List I) (makers : List ℕ) (served : ℕ) (vs : List (View I F)) (id : ℕ) (w : View I F)
    → ((j : ℕ) (u : View I F) → j ≢ id → get_elem? vs j ≡ some u → Fits key log makers served u) → Fits key log makers served w
    → (j : ℕ) (u : View I F) → get_elem? (set vs id w) j ≡ some u → Fits key log makers served u
fits_set {I} {F} key log makers served vs id w others mine j u at =
    ⊎_elim
    (λ (x : (j ≡ id) × (w ≡ u)). subst (λ (y : View I F). Fits key log makers served y) x.1 mine)
    (λ (x : (j ≢ id) × (get_elem? vs j ≡ some u)). others j u x.0 x.1)
    (at_set vs id j w u at)
