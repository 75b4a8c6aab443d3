-- Each entry of a history was told: its root is one of the plan's, and its references are told as own or foreign by their identities.
use Rattle.std.proofs.Common.{◌≡◌, refl, ℕ, ◌≤◌, ◌<◌, nat_lt, Bool, true, not, ◌&&◌, List, [], ◌∷◌, length, Option, None, Some, arith}
use Rattle.std.specs.List.{AllByRecursion, list_all}
use Rattle.std.proofs.lemmas.Bool.{and_parts, and_from, ltb-true, ltb-false, not-true}
use Rattle.uno_model.specs.Values.{Plain}
use Rattle.bridge_model.specs.Entries.{Entry, asked, called, queried}
use Rattle.bridge_model.specs.Histories.{Told, nothing_told, tells_all, told_by, replay, Leads}
use Rattle.bridge_model.specs.References.{refs_of_values}
use Rattle.bridge_model.specs.Roots.{holds_each, holds_pair, is_idle}
use Rattle.bridge_model.specs.Settings.{Setting, is_told}
use Rattle.bridge_model.specs.Sides.{Side, stands, state_of}
use Rattle.bridge_model.specs.Steps.{Turn, step, may, is_root, may_begin, may_give, has_entries}
use Rattle.bridge_laws.specs.Living.{entry_refs, are_told}
use Rattle.bridge_laws.specs.OfPlan.{IsRoot, IsOfPlan}
use Rattle.bridge_laws.proofs.Replays.{of_step}

-- ---- what an entry may be

root_is : (g : Setting) (root : ℕ) → is_root g root ≡ true → IsRoot g root
root_is g root is =
    let parts = and_parts (nat_lt 0 root) (not (nat_lt (length g.plan.threads) root)) is in
    let first : 0 < root = ltb-true 0 root parts.0 in
    let last : root ≤ length g.plan.threads = ltb-false (length g.plan.threads) root (not-true (nat_lt (length g.plan.threads) root) parts.1) in
    (omega arith, last)

begun_by : (g : Setting) (s : Side) (root : ℕ) (rest : Bool) → (stands s && (not (has_entries s) && (may_begin g root s && rest))) ≡ true → IsRoot g root
begun_by g s root rest is =
    let begins = and_parts (not (has_entries s)) (may_begin g root s && rest) (and_parts (stands s) _ is).1 in
    root_is g root (and_parts (is_root g root) (is_idle (state_of root s.tables.roots)) (and_parts (may_begin g root s) rest begins.1).0).0

asked_by : (g : Setting) (s : Side) (root : ℕ) → (stands s && (not (has_entries s) && may_begin g root s)) ≡ true → IsRoot g root
asked_by g s root is =
    let begins = and_parts (not (has_entries s)) (may_begin g root s) (and_parts (stands s) _ is).1 in
    root_is g root (and_parts (is_root g root) (is_idle (state_of root s.tables.roots)) begins.1).0

pub may_of_plan : (g : Setting) (s : Side) (e : Entry) → may g s e ≡ true → IsOfPlan g e
unfolding may
may_of_plan g s (asked root name wanted) is = asked_by g s root is
may_of_plan g s (called root oid face function args) is = begun_by g s root (holds_pair root oid face s.tables && may_give g root args s) is
may_of_plan g s (queried root oid face wanted) is = begun_by g s root (holds_pair root oid face s.tables) is
may_of_plan g s e is = tt

given_told : (g : Setting) (s : Side) (root : ℕ) (oid face : List ℕ) (args : List Plain)
    → (stands s && (not (has_entries s) && (may_begin g root s && (holds_pair root oid face s.tables && may_give g root args s)))) ≡ true
    → list_all (is_told g) (refs_of_values args) ≡ true
given_told g s root oid face args is =
    let begins = and_parts (not (has_entries s)) _ (and_parts (stands s) _ is).1 in
    let gives = and_parts (holds_pair root oid face s.tables) (may_give g root args s) (and_parts (may_begin g root s) _ begins.1).1 in
    (and_parts (holds_each root (refs_of_values args) s.tables) (list_all (is_told g) (refs_of_values args)) gives.1).1

pub may_told : (g : Setting) (s : Side) (e : Entry) → may g s e ≡ true → list_all (is_told g) (entry_refs e) ≡ true
unfolding may
may_told g s (called root oid face function args) is = given_told g s root oid face args is
may_told g s e is = refl

-- ---- histories

-- both of all entries
pub record AreAllowed (g : Setting) (es : List Entry) : Type 0 where
  pub roots : AllByRecursion (IsOfPlan g) es
  pub told : are_told g es ≡ true

nothing_allowed : (g : Setting) → AreAllowed g []
unfolding are_told
nothing_allowed g = record { roots = tt; told = refl }

one_allowed : (g : Setting) (e : Entry) (es : List Entry) → IsOfPlan g e → list_all (is_told g) (entry_refs e) ≡ true → AreAllowed g es → AreAllowed g (e ∷ es)
unfolding are_told
one_allowed g e es root told all = record { roots = (root, all.roots); told = and_from (list_all (is_told g) (entry_refs e)) (are_told g es) told all.told }

entry_allowed : (g : Setting) (x y : Told) (e : Entry) (o : Option Turn) (es : List Entry) → o ≡ step g x.side e → tells_all g (told_by x e o) es ≡ Some y
    → ((z : Told) → tells_all g (Some z) es ≡ Some y → AreAllowed g es) → AreAllowed g (e ∷ es)
unfolding tells_all
entry_allowed g x y e None es is to rest = absurd (cc)
entry_allowed g x y e (Some u) es is to rest =
    one_allowed g e es
    (of_step g x.side e u (λ v. IsOfPlan g e) (λ may_it. may_of_plan g x.side e may_it) (cc))
    (of_step g x.side e u (λ v. list_all (is_told g) (entry_refs e) ≡ true) (λ may_it. may_told g x.side e may_it) (cc))
    (rest _ to)

allowed_on : (g : Setting) (x y : Told) (es : List Entry) → tells_all g (Some x) es ≡ Some y → AreAllowed g es
unfolding tells_all
allowed_on g x y [] to = nothing_allowed g
allowed_on g x y (e ∷ es) to = entry_allowed g x y e (step g x.side e) es refl to (λ z later. allowed_on g z y es later)

pub all_allowed : (g : Setting) (es : List Entry) (x : Told) → Leads g es x → AreAllowed g es
unfolding replay
all_allowed g es x leads = allowed_on g (nothing_told g) x es leads
