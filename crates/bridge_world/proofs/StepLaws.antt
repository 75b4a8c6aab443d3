-- A root that moves: where it stands among the runs, and that all of them stand behind its move.
use Rattle.std.proofs.Common.{◌≡◌, ◌⊎◌, inl, inr, refl, sym, ap, ◌∙◌, subst, ℕ, zero, suc, ◌+◌, ◌<◌, Bool, true, false, List, [], ◌∷◌, ◌++◌, length, map, get_or, slice_get, slice_set, Option, None, Some, arith}
use Rattle.std.proofs.lemmas.Bool.{false≢true}
use Rattle.bridge_endpoint.specs.Entering.{out_of_memory}
use Rattle.bridge_endpoint.specs.Journals.{Endpoint, setting_at, side_at, told_at}
use Rattle.bridge_model.specs.Entries.{Entry}
use Rattle.bridge_model.specs.Histories.{Leads}
use Rattle.bridge_model.specs.RootRuns.{finished, moved, root_moves, waiting}
use Rattle.bridge_model.specs.Settings.{Setting}
use Rattle.bridge_model.specs.Sides.{Side}
use Rattle.bridge_core.specs.Moving.{Does, IsLeft, StepsSo, next_move, with_any}
use Rattle.bridge_core.specs.Standing.{IsRunAt}
use Rattle.bridge_core.specs.declared.moved.RootMoved.{RootMoved}
use Rattle.bridge_core.specs.declared.moved.RootMoved.TheVariants as answer
use Rattle.bridge_laws.proofs.TypedGiven.{IsGiven}
use Rattle.world_laws.proofs.StandingLaws.{entered_stand, passed_stand, stands_there}
use Rattle.world_model.specs.Moves.{Deed, does_move, one_if, stepping, steps}
use Rattle.plan_model.specs.Roots.{Run}
use Rattle.bridge_world.specs.Doing.{HasStepped, KeepsRuns, StandThere}
use Rattle.bridge_world.proofs.RunsLaws.{keeps_lost, keeps_same}
use Rattle.bridge_world.proofs.Seeing.{side_of_told}

-- ---- lists

map_set : {A B : Type 0} (f : A → B) (xs : List A) (i : ℕ) (y : A) → map f (slice_set xs i y) ≡ slice_set (map f xs) i (f y)
map_set f [] i y = refl
map_set f (x ∷ xs) zero y = refl
map_set f (x ∷ xs) (suc i) y = ap (λ zs. f x ∷ zs) (map_set f xs i y)

pub map_there : {A B : Type 0} (f : A → B) (xs : List A) (i : ℕ) (x : A) → i < length xs → x ≡ get_or xs i x → slice_get (map f xs) i ≡ Some (f x)
map_there f [] i x within is = let bad : ⊥ = omega arith in absurd bad
map_there f (y ∷ xs) zero x within is = ap (λ z. Some (f z)) (sym is)
map_there f (y ∷ xs) (suc i) x within is = let tail : i < length xs = omega arith in map_there f xs i x tail is

set_same : {A : Type 0} (xs : List A) (i : ℕ) (x y : A) → slice_get xs i ≡ Some x → y ≡ x → slice_set xs i y ≡ xs
set_same [] i x y at is = refl
set_same (z ∷ xs) zero x y at is = let same : z ≡ x = cc in ap (λ w. w ∷ xs) (is ∙ sym same)
set_same (z ∷ xs) (suc i) x y at is = ap (λ ws. z ∷ ws) (set_same xs i x y at is)

within_map : {A B : Type 0} (f : A → B) (xs : List A) (i : ℕ) (y : B) → slice_get (map f xs) i ≡ Some y → i < length xs
within_map f [] i y at = absurd (cc)
within_map f (x ∷ xs) zero y at = omega arith
within_map f (x ∷ xs) (suc i) y at = let tail : i < length xs = within_map f xs i y at in omega (arith, tail)

same_some : {A : Type 0} (x y : A) → ◌≡◌ {A = Option A} (Some x) (Some y) → x ≡ y
same_some x y is = cc

-- ---- the root at a place among those that move

pub record MovesAt (g : Setting) (s : Side) (first : ℕ) (rs : List Run) (place : ℕ) : Type 0 where
  pub run : Run
  pub behind : ℕ
  pub at : place ≡ first + behind
  pub there : slice_get rs behind ≡ Some run
  pub moves : does_move (root_moves g s run) ≡ true

same_place : (m n : ℕ) → ◌≡◌ {A = Option Deed} (Some (steps m)) (Some (steps n)) → m ≡ n
same_place m n is = cc

later_moves : (g : Setting) (s : Side) (first : ℕ) (r : Run) (rs : List Run) (place : ℕ) → MovesAt g s (suc first) rs place → MovesAt g s first (r ∷ rs) place
later_moves g s first r rs place is =
    let at = is.at in
    let next : place ≡ first + suc is.behind = omega (arith, at) in
    record { run = is.run; behind = suc is.behind; at = next; there = is.there; moves = is.moves }

moves_by : (g : Setting) (s : Side) (first : ℕ) (r : Run) (rs : List Run) (nth place : ℕ) → ((n : ℕ) → slice_get (stepping g s (suc first) rs) n ≡ Some (steps place) → MovesAt g s (suc first) rs place)
    → (b : Bool) → does_move (root_moves g s r) ≡ b → slice_get (one_if b (steps first) ++ stepping g s (suc first) rs) nth ≡ Some (steps place) → MovesAt g s first (r ∷ rs) place
moves_by g s first r rs zero place later true moves at =
    let same : first ≡ place = same_place first place at in
    let here : place ≡ first + 0 = omega (arith, same) in
    record { run = r; behind = 0; at = here; there = refl; moves = moves }
moves_by g s first r rs (suc nth) place later true moves at = later_moves g s first r rs place (later nth at)
moves_by g s first r rs nth place later false moves at = later_moves g s first r rs place (later nth at)

moves_from : (g : Setting) (s : Side) (first : ℕ) (rs : List Run) (nth place : ℕ) → slice_get (stepping g s first rs) nth ≡ Some (steps place) → MovesAt g s first rs place
unfolding stepping
moves_from g s first [] nth place at = absurd (cc)
moves_from g s first (r ∷ rs) nth place at = moves_by g s first r rs nth place (λ n later. moves_from g s (suc first) rs n place later) (does_move (root_moves g s r)) refl at

pub record MovesThere (g : Setting) (s : Side) (rs : List Run) (place : ℕ) : Type 0 where
  pub run : Run
  pub there : slice_get rs place ≡ Some run
  pub moves : does_move (root_moves g s run) ≡ true

pub moves_there : (g : Setting) (s : Side) (rs : List Run) (nth place : ℕ) → slice_get (stepping g s 0 rs) nth ≡ Some (steps place) → MovesThere g s rs place
moves_there g s rs nth place at =
    let is = moves_from g s 0 rs nth place at in
    let from = is.at in
    let same : is.behind ≡ place = omega (arith, from) in
    record { run = is.run; there = subst (λ (k : ℕ). slice_get rs k ≡ Some is.run) same is.there; moves = is.moves }

-- by what is told of an end
pub listed_there : (e f : Endpoint) (xs ys : List Run) (nth place : ℕ) → setting_at e ≡ setting_at f → side_at e ≡ side_at f → xs ≡ ys
    → Some (steps place) ≡ slice_get (stepping (setting_at e) (side_at e) 0 xs) nth → slice_get (stepping (setting_at f) (side_at f) 0 ys) nth ≡ Some (steps place)
listed_there e f xs ys nth place same also all at =
    ap (λ (g : Setting). slice_get (stepping g (side_at f) 0 ys) nth) (sym same)
    ∙ (ap (λ (s : Side). slice_get (stepping (setting_at e) s 0 ys) nth) (sym also) ∙ (ap (λ (rs : List Run). slice_get (stepping (setting_at e) (side_at e) 0 rs) nth) (sym all) ∙ sym at))

-- ---- its move

module _ {A : Type 0} (of : A → Run) (e : Endpoint) (items : List A) (nth place : ℕ) (listed : slice_get (stepping (setting_at e) (side_at e) 0 (map of items)) nth ≡ Some (steps place)) where
  root : MovesThere (setting_at e) (side_at e) (map of items) place
  root = moves_there (setting_at e) (side_at e) (map of items) nth place listed

  pub root_within : place < length items
  root_within = within_map of items place root.run root.there

  module _ (was now : A) (is : was ≡ get_or items place was) where
    was_there : slice_get (map of items) place ≡ Some (of was)
    was_there = map_there of items place was root_within is

    same_run : root.run ≡ of was
    same_run = same_some root.run (of was) (sym root.there ∙ was_there)

    -- it moves
    pub goes : does_move (next_move e (of was)) ≡ true
    goes = ap (λ (r : Run). does_move (root_moves (setting_at e) (side_at e) r)) (sym same_run) ∙ root.moves

    pub not_waiting : next_move e (of was) ≡ waiting → ⊥
    not_waiting waits = absurd (false≢true (sym (ap does_move waits) ∙ goes))

    pub not_finished : next_move e (of was) ≡ finished → ⊥
    not_finished over = absurd (false≢true (sym (ap does_move over) ∙ goes))

    pub not_still : (f : Endpoint) (r : RootMoved) → (r ≡ answer.Waiting) ⊎ (r ≡ answer.Finished) → StepsSo e f (of was) (of now) r → ⊥
    not_still f r (inl at) stepped = let so = subst (StepsSo e f (of was) (of now)) at stepped in not_waiting so.0
    not_still f r (inr at) stepped = let so = subst (StepsSo e f (of was) (of now)) at stepped in not_finished so.0

    pub runs_there : StandThere e (map of items) → IsRunAt e (of was)
    runs_there all =
        let stands = stands_there (setting_at e) e.entries (map of items) place (of was) all was_there in
        record { root = stands.root; stands = stands.stands; named = stands.named }

    pub has_stepped : (f : Endpoint) → Does (next_move e (of was)) e f (of now) → HasStepped nth e f (map of items) (map of (slice_set items place now))
    has_stepped f does =
        record {
          place = place;
          run = of was;
          next = of now;
          entry = does.entry;
          moves = listed;
          there = was_there;
          step = does.moves;
          set = map_set of items place now;
          entered = does.entered;
        }

    -- all of them stand behind it
    module _ (given : IsGiven (setting_at e)) (leads : Leads (setting_at e) e.entries (told_at e)) (all : StandThere e (map of items)) where
      stand_by : (o : Option Entry) → next_move e (of was) ≡ moved (of now) o → StandThere (with_any o e) (slice_set (map of items) place (of now))
      stand_by None moves =
          passed_stand (setting_at e) given e.entries (told_at e) leads (map of items) place (of was) (of now) all was_there
          (ap (λ (s : Side). root_moves (setting_at e) s (of was)) (sym (side_of_told e)) ∙ moves)
      stand_by (Some x) moves =
          entered_stand (setting_at e) given e.entries (told_at e) leads (map of items) place (of was) (of now) all was_there x
          (ap (λ (s : Side). root_moves (setting_at e) s (of was)) (sym (side_of_told e)) ∙ moves)

      pub stand_behind : (f : Endpoint) → Does (next_move e (of was)) e f (of now) → StandThere f (map of (slice_set items place now))
      stand_behind f does =
          subst (λ (z : Endpoint). StandThere z (map of (slice_set items place now))) (sym does.entered)
          (subst (StandThere (with_any does.entry e)) (sym (map_set of items place now)) (stand_by does.entry does.moves))

    -- or nothing was moved
    left_keeps : (f : Endpoint) → (f ≡ e) ⊎ (f ≡ out_of_memory e) → KeepsRuns e f
    left_keeps f (inl same) = keeps_same e f same
    left_keeps f (inr lost) = keeps_lost e f lost

    pub stand_left : (f h : Endpoint) → StandThere e (map of items) → IsLeft e f (of was) (of now) → KeepsRuns f h → StandThere h (map of (slice_set items place now))
    stand_left f h all left keeps =
        subst (StandThere h) (sym (map_set of items place now ∙ set_same (map of items) place (of was) (of now) was_there left.run)) (keeps (map of items) (left_keeps f left.bridge (map of items) all))
