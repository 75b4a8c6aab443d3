-- The lines of a root: what each of its statements says, in the words of the history.
use Rattle.std.specs.Prelude.{◌≡◌, ℕ, suc, Bool, true, false, List, [], ◌∷◌, ◌++◌, Option, None, Some, slice_get, codes}
use Rattle.literal_model.specs.Literals.{print}
use Rattle.uno_model.specs.Values.{Ref, null, own}
use Rattle.uno_model.specs.Values as v
use Rattle.plan_model.specs.Calling.{object_of}
use Rattle.plan_model.specs.Evaluation.{value_under, value_of_word, same_value}
use Rattle.plan_model.specs.Roots.{Run, statements_of}
use Rattle.plan_model.specs.Statements.{Making, RootStatement, ask, ask_instance, root_call, root_query, root_make, root_drop, same, root_dispose}
use Rattle.bridge_model.specs.Entries.{Entry, made, took, disposed, full}
use Rattle.bridge_model.specs.Histories.{Told, Leads}
use Rattle.bridge_model.specs.RootRuns.{is_skipped, outcome_text, line_of, scene_of, same_text, StandsFor}
use Rattle.bridge_model.specs.Settings.{Setting, own_oid}
use Rattle.bridge_model.specs.Sides.{Outcome, answered, Side, stands, state_of}
use Rattle.bridge_model.specs.Steps.{has_entries}

-- ---- statements

-- a statement whose variables have values calls or queries null
abbrev pub HasNull : Run → RootStatement → Type 0
HasNull r (root_call c) = object_of (value_of_word (scene_of r) c.target) ≡ null
HasNull r (root_query q) = object_of (value_of_word (scene_of r) q.target) ≡ null
HasNull r s = ⊥

-- a statement that needs the bridge
abbrev pub needs_bridge : RootStatement → Bool
needs_bridge (ask to wanted name) = true
needs_bridge (ask_instance to wanted) = true
needs_bridge (root_call c) = true
needs_bridge (root_query q) = true
needs_bridge (root_make m) = true
needs_bridge (root_drop name) = false
needs_bridge (same a b) = false
needs_bridge root_dispose = false

-- it is not skipped, its target is not null, and it needs the bridge
pub record IsBegun (r : Run) (s : RootStatement) : Type 0 where
  pub needs : needs_bridge s ≡ true
  pub there : is_skipped r.variables s ≡ false
  pub target : HasNull r s → ⊥

-- what a statement of a run says at a side, and the entry that it makes with that: it is skipped, its target is null, or it compares, by the variables alone; it has
-- the outcome that is taken, or the object that is made; or it is not begun, since the bridge has ended, or reaches its limit
pub data Says (g : Setting) (z : Side) (r : Run) (s : RootStatement) : Option Entry → List ℕ → Type 0 where
  is_skipped_line : is_skipped r.variables s ≡ true → Says g z r s None (codes "skipped")
  is_null_line : is_skipped r.variables s ≡ false → HasNull r s → Says g z r s None (codes "null")
  compares : (a b : List ℕ) → s ≡ same a b → is_skipped r.variables s ≡ false
      → Says g z r s None (same_text (same_value (value_under a r.variables) (value_under b r.variables)))
  takes : (o : Outcome) → state_of r.root z.tables.roots ≡ answered o → Says g z r s (Some (took r.root)) (outcome_text g.registry s o)
  makes : (m : Making) → s ≡ root_make m → stands z ≡ true
      → Says g z r s (Some (made r.root m.behaviour m.face)) (codes "returned " ++ print g.registry (v.ref (own (own_oid g (suc z.tables.objects_made)) m.face)))
  is_gone : IsBegun r s → stands z ≡ false → Says g z r s None (codes "gone")
  is_full : IsBegun r s → stands z ≡ true → has_entries z ≡ true → Says g z r s (Some full) (codes "full")

-- a statement that gives no line; behind a dispose the bridge has ended
pub data Silent (z : Side) : RootStatement → Option Entry → Type 0 where
  drops_one : (name : List ℕ) → Silent z (root_drop name) None
  disposes : stands z ≡ true → Silent z root_dispose (Some disposed)
  is_disposed : stands z ≡ false → Silent z root_dispose None

-- ---- histories

-- an entry stands first in what follows, or none is asked for
abbrev pub ComesFirst : Option Entry → List Entry → Type 0
ComesFirst None later = Unit
ComesFirst (Some e) later = (rest : List Entry) × (later ≡ e ∷ rest)

-- a place in a history where the run has done all statements before this one
pub record IsAt (g : Setting) (es : List Entry) (root place : ℕ) (ls : List (List ℕ)) : Type 0 where
  pub front : List Entry
  pub later : List Entry
  pub journal : es ≡ front ++ later
  pub told : Told
  pub leads : Leads g front told
  pub run : Run
  pub stands_for : StandsFor g front run
  pub same_root : run.root ≡ root
  pub same_place : run.place ≡ place
  pub same_lines : run.lines ≡ ls

-- the lines of so many statements of a root: each has one, but those that give none
pub data Lines (g : Setting) (es : List Entry) (root : ℕ) : ℕ → List (List ℕ) → Type 0 where
  first : Lines g es root 0 []
  silent : (place : ℕ) → (ls : List (List ℕ)) → (s : RootStatement) → (e : Option Entry) → (at : IsAt g es root place ls) → slice_get (statements_of g.plan root) place ≡ Some s
      → Silent at.told.side s e → ComesFirst e at.later → Lines g es root place ls → Lines g es root (suc place) ls
  line : (place : ℕ) → (ls : List (List ℕ)) → (s : RootStatement) → (e : Option Entry) → (text : List ℕ) → (at : IsAt g es root place ls) → slice_get (statements_of g.plan root) place ≡ Some s
      → Says g at.told.side at.run s e text → ComesFirst e at.later → Lines g es root place ls → Lines g es root (suc place) (ls ++ line_of at.run text ∷ [])
