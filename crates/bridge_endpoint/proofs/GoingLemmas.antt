-- Outcomes that are taken, and objects that are reaped.
use Rattle.std.proofs.Common.{◌≡◌, refl, ℕ, true, ◌==◌, List, Option, None, Some, arith}
use Rattle.std.proofs.lemmas.Bool.Decides.{nat_tests}
use Rattle.std.specs.Option.{option_map}
use Rattle.bridge_model.specs.Answers.{may_reap}
use Rattle.bridge_model.specs.Entries.{dropped, reaped, took}
use Rattle.bridge_model.specs.Objects.{lowest}
use Rattle.bridge_model.specs.Roots.{holds_pair, outcome_in}
use Rattle.bridge_model.specs.Settings.{Setting}
use Rattle.bridge_model.specs.Sides.{Object, Outcome, Side, state_of}
use Rattle.bridge_model.specs.Steps.{is_numbered, is_outcome, may}

some_outcome : (o : Option Outcome) (x : Outcome) → Some x ≡ o → is_outcome o ≡ true
some_outcome None x is = absurd (cc)
some_outcome (Some y) x is = refl

pub may_take : (g : Setting) (s : Side) (root : ℕ) (x : Outcome) → Some x ≡ outcome_in (state_of root s.tables.roots) → may g s (took root) ≡ true
unfolding may
may_take g s root x is = some_outcome (outcome_in (state_of root s.tables.roots)) x is

pub may_drop : (g : Setting) (s : Side) (root : ℕ) (oid face : List ℕ) → holds_pair root oid face s.tables ≡ true → may g s (dropped root oid face) ≡ true
unfolding may
may_drop g s root oid face holds = holds

same_number : (n m : ℕ) → n ≡ m → (n == m) ≡ true
same_number n m same = grind (arith, nat_tests)

numbered : (o : Option Object) (n : ℕ) → Some n ≡ option_map (λ x. x.number) o → is_numbered n o ≡ true
numbered None n is = absurd (cc)
numbered (Some x) n is = same_number n x.number (cc)

pub may_take_out : (g : Setting) (s : Side) (n : ℕ) → Some n ≡ may_reap g s → may g s (reaped n) ≡ true
unfolding may
may_take_out g s n is = numbered (lowest g s.tables) n is
