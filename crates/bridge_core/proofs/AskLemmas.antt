-- Statements that ask something, and moves of a root that is idle.
use Rattle.std.proofs.Common.{arith, ◌≡◌, refl, sym, ap, subst, ◌∙◌, ◌++◌, ◌==◌, Bool, true, false, List, [], ◌∷◌, length, map, Option, None, Some, IfOk, Result, Ok, Err}
use Rattle.std.proofs.lemmas.Bool.{eqb-true, true≢false}
use Rattle.std.specs.Option.{is_some}
use Rattle.uno_model.specs.Values.{Ref}
use Rattle.uno_values.specs.References.{ref_of}
use Rattle.uno_values.specs.declared.reference.Reference.{Reference}
use Rattle.plan_model.specs.Calling.{object_of}
use Rattle.plan_model.specs.Evaluation.{value_of_word}
use Rattle.plan_model.specs.Frames.{Variable}
use Rattle.plan_model.specs.Roots.{Run, next_loose}
use Rattle.plan_model.specs.Statements.{RootStatement, Call, root_call}
use Rattle.bridge_model.specs.RootRuns.{Moved, begins_statement, calls_on, idle_moves, is_skipped, lets_loose, next_statement, root_moves, scene_of, state_moves, statement_at, waiting}
use Rattle.bridge_model.specs.Settings.{Setting}
use Rattle.bridge_model.specs.Sides.{RootState, Side, idle, waits_call, waits_query, answered, state_of, stands_by}
use Rattle.bridge_model.specs.declared.cause.Cause.{Cause}
use Rattle.bridge_endpoint.specs.Telling.{state_told}
use Rattle.bridge_endpoint.specs.Telling as told
use Rattle.bridge_endpoint.specs.Journals.{Endpoint, setting_at, side_at}
use Rattle.bridge_core.specs.Asking.{asks}
use Rattle.bridge_core.specs.Moving.{Does, DoesAny, DoesOr, next_move}
use Rattle.bridge_core.specs.declared.asking.Asked.{Asked}
use Rattle.bridge_core.proofs.StateLemmas.{goes_on, idle_does}

-- a bridge without an end stands
pub stands_there : (c d : Option Cause) → d ≡ c → is_some d ≡ false → stands_by c ≡ true
stands_there c d same none = sym (by_end d none ∙ ap stands_by same)
  where
    by_end : (o : Option Cause) → is_some o ≡ false → true ≡ stands_by o
    by_end None absent = refl
    by_end (Some why) absent = absurd (true≢false absent)

-- ---- what a statement asks

-- a statement that calls asks what its call asks
pub calls_so : {X : Type 0} (g : Setting) (s : Side) (r : Run) (c : Call) (x : RootStatement) (asked : Result (Option Asked) X) → x ≡ root_call c
    → IfOk asked (λ a. calls_on g.registry s r c (object_of (value_of_word (scene_of r) c.target)) ≡ asks s r a) → IfOk asked (λ a. begins_statement g s r x ≡ asks s r a)
unfolding begins_statement
calls_so g s r c x (Ok a) is done = ap (begins_statement g s r) is ∙ done
calls_so g s r c x (Err e) is done = done

-- the statement at the place of a root does what was made of it
pub asks_so : {X : Type 0} (e f : Endpoint) (r after : Run) (at s : RootStatement) (m : Moved) (done : Result Unit X) → Some at ≡ statement_at (setting_at e) r
    → begins_statement (setting_at e) (side_at e) r at ≡ m → DoesOr m e f r after done → statement_at (setting_at e) r ≡ Some s
    → DoesOr (begins_statement (setting_at e) (side_at e) r s) e f r after done
asks_so e f r after at s m done there begins does is =
    let same : at ≡ s = some_same (there ∙ is) in
    subst (λ n. DoesOr n e f r after done) (sym begins ∙ ap (begins_statement (setting_at e) (side_at e) r) same) does
  where
    some_same : Some at ≡ Some s → at ≡ s
    some_same both = cc

-- the statement that is there is not skipped
pub goes_so : (xs : List Variable) (there s : RootStatement) (o : Option RootStatement) (b : Bool) → Some there ≡ o → b ≡ is_skipped xs there → b ≡ false → o ≡ Some s → is_skipped xs s ≡ false
goes_so xs there s o b at is stays other = ap (is_skipped xs) (sym (some_same (at ∙ other))) ∙ (sym is ∙ stays)
  where
    some_same : Some there ≡ Some s → there ≡ s
    some_same both = cc

-- ---- moves of a root that is idle

-- it has nothing to let go, and begins its next statement
pub begins_so : {X : Type 0} (e f : Endpoint) (r mid after : Run) (done : Result Bool X) → mid ≡ r → state_of r.root (side_at e).tables.roots ≡ idle → mid.loose ≡ []
    → DoesAny (next_statement (setting_at e) (side_at e) mid (statement_at (setting_at e) mid)) e f mid after done → DoesAny (next_move e r) e f r after done
begins_so e f r mid after done same free none does =
    let free_too : state_of mid.root (side_at e).tables.roots ≡ idle = subst (λ q. state_of q.root (side_at e).tables.roots ≡ idle) (sym same) free in
    subst (λ q. DoesAny (next_move e q) e f q after done) same (subst (λ m. DoesAny m e f mid after done) (sym (goes_on (setting_at e) (side_at e) mid free_too none)) does)

-- a list without items is empty
pub nothing_there : {A : Type 0} (xs : List A) → (length xs == 0) ≡ true → xs ≡ []
nothing_there [] none = refl
nothing_there (x ∷ xs) none = let bad : ⊥ = omega (arith, eqb-true (length (x ∷ xs)) 0 none) in absurd bad

-- a list of references that is not empty has a first one
pub first_loose : {P : Type 0} (rs : List Reference) (more : List Ref) → (length rs == 0) ≡ false → ((x : Ref) → next_loose (map ref_of rs ++ more) ≡ Some x → P) → P
first_loose [] more some then = absurd (true≢false some)
first_loose (x ∷ rs) more some then = then (ref_of x) refl

pub none_loose : (rs : List Reference) (more : List Ref) → (rs ≡ [] → ⊥) → None ≡ next_loose (map ref_of rs ++ more) → ⊥
none_loose [] more some none = some refl
none_loose (x ∷ rs) more some none = let bad : ⊥ = cc in bad

-- it lets the first one go
pub lets_go_so : (e f : Endpoint) (r mid after : Run) (x : Ref) → mid ≡ r → state_of r.root (side_at e).tables.roots ≡ idle → next_loose mid.loose ≡ Some x
    → Does (lets_loose mid x) e f after → Does (next_move e r) e f after
lets_go_so e f r mid after x same free next does =
    let first : next_loose r.loose ≡ Some x = subst (λ q. next_loose q.loose ≡ Some x) same next in
    let moves : next_move e r ≡ lets_loose r x = idle_does (setting_at e) (side_at e) r free ∙ ap (idle_moves (setting_at e) (side_at e) r) first in
    subst (λ m. Does m e f after) (sym moves) (subst (λ q. Does (lets_loose q x) e f after) same does)

-- ---- a root that waits

pub waits_so : (g : Setting) (s : Side) (r : Run) → told.Waits ≡ state_told (state_of r.root s.tables.roots) → root_moves g s r ≡ waiting
unfolding root_moves
waits_so g s r is = by_state (state_of r.root s.tables.roots) is
  where
    by_state : (st : RootState) → told.Waits ≡ state_told st → state_moves g s r st ≡ waiting
    by_state idle same = let bad : ⊥ = cc in absurd bad
    by_state waits_call same = refl
    by_state (waits_query wanted) same = refl
    by_state (answered o) same = let bad : ⊥ = cc in absurd bad
