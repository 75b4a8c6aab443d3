-- Runs that stand for the entries of an end stand behind one more: one of no root, or that of one of them.
use Rattle.std.proofs.Common.{◌≡◌, refl, sym, ap, subst, ◌∙◌, ℕ, zero, suc, ◌+◌, ◌<◌, ◌≤◌, Bool, true, false, not, ◌&&◌, List, [], ◌∷◌, ◌++◌, length, nat_lt, slice_get, slice_set, Option, None, Some, arith}
use Rattle.std.proofs.lemmas.Bool.{and_parts, and_from, le-ltb, lt-ltb, ltb-true, ltb-false, not-true}
use Rattle.std.specs.List.{AllByRecursion}
use Rattle.plan_model.specs.Forms.{is_export_name}
use Rattle.plan_model.specs.Plans.{manager_name}
use Rattle.plan_model.specs.Roots.{Run, opening_run}
use Rattle.plan_model.specs.Statements.{RootStatement}
use Rattle.bridge_laws.specs.OfPlan.{IsRoot}
use Rattle.bridge_model.specs.Entries.{Entry}
use Rattle.bridge_model.specs.Histories.{Told, Leads}
use Rattle.bridge_model.specs.Orders.{first_runs}
use Rattle.bridge_model.specs.RootRuns.{moved, root_moves, is_of_root, begun, another, entered, passed}
use Rattle.bridge_model.specs.Settings.{Setting}
use Rattle.bridge_model.specs.Steps.{is_root}
use Rattle.bridge_laws.proofs.TypedGiven.{IsGiven}
use Rattle.bridge_laws.proofs.OwnLaws.{IsOwn, move_own}
use Rattle.bridge_laws.proofs.RunGivingLaws.{IsOfRun, move_run}
use Rattle.world_laws.specs.Standing.{StandsAt, AllStandAt}

some_same : (q r : Run) → ◌≡◌ {A = Option Run} (Some q) (Some r) → q ≡ r
some_same q r is = cc

at_place : (P : Run → Type 0) (rs : List Run) (n : ℕ) (r : Run) → AllByRecursion P rs → slice_get rs n ≡ Some r → P r
at_place P [] n r all is = absurd (cc)
at_place P (x ∷ rs) zero r all is = subst P (some_same x r is) all.0
at_place P (x ∷ rs) (suc n) r all is = at_place P rs n r all.1 is

set_place : (P : Run → Type 0) (rs : List Run) (n : ℕ) (r : Run) → AllByRecursion P rs → P r → AllByRecursion P (slice_set rs n r)
set_place P [] n r all is = tt
set_place P (x ∷ rs) zero r all is = (is, all.1)
set_place P (x ∷ rs) (suc n) r all is = (all.0, set_place P rs n r all.1 is)

-- the run at a place is one of them
pub stands_there : (g : Setting) (es : List Entry) (rs : List Run) (n : ℕ) (r : Run) → AllStandAt g es rs → slice_get rs n ≡ Some r → StandsAt g es r
unfolding AllStandAt
stands_there g es [] n r all is = absurd (cc)
stands_there g es (q ∷ rs) zero r all is = subst (StandsAt g es) (some_same q r is) all.0
stands_there g es (q ∷ rs) (suc n) r all is = stands_there g es rs n r all.2 is

-- ---- an entry that is not a run's own

one_stands : (g : Setting) (es : List Entry) (x : Entry) (r : Run) → is_of_root r.root x ≡ false → StandsAt g es r → StandsAt g (es ++ x ∷ []) r
one_stands g es x r other is = record { root = is.root; stands = another x other is.stands; named = is.named }

-- of no root
pub others_stand : (g : Setting) (es : List Entry) (x : Entry) → ((n : ℕ) → is_of_root n x ≡ false) → (rs : List Run) → AllStandAt g es rs → AllStandAt g (es ++ x ∷ []) rs
unfolding AllStandAt
others_stand g es x none [] all = tt
others_stand g es x none (r ∷ rs) all = (one_stands g es x r (none r.root) all.0, all.1, others_stand g es x none rs all.2)

not_of : (x : Entry) (root m : ℕ) → IsOwn root (Some x) → (m ≡ root → ⊥) → (b : Bool) → is_of_root m x ≡ b → is_of_root m x ≡ false
not_of x root m own apart true is = absurd (apart (own m is))
not_of x root m own apart false is = is

-- of a root that is lower than all of them
higher_stand : (g : Setting) (es : List Entry) (x : Entry) (root : ℕ) → IsOwn root (Some x) → (rs : List Run) → AllByRecursion (λ (q : Run). root < q.root) rs → AllStandAt g es rs → AllStandAt g (es ++ x ∷ []) rs
unfolding AllStandAt
higher_stand g es x root own [] higher all = tt
higher_stand g es x root own (q ∷ rs) higher all =
    let over = higher.0 in (
      one_stands g es x q (not_of x root q.root own (λ same. omega (arith, over, same)) (is_of_root q.root x) refl) all.0,
      all.1,
      higher_stand g es x root own rs higher.1 all.2,
    )

-- ---- the run at a place goes on

-- with an entry of its own
pub one_enters : (g : Setting) (es : List Entry) (x : Entry) (r next : Run) → IsOwn r.root (Some x) → next.root ≡ r.root → StandsAt g (es ++ x ∷ []) next
    → (rs : List Run) (n : ℕ) → AllStandAt g es rs → slice_get rs n ≡ Some r → AllStandAt g (es ++ x ∷ []) (slice_set rs n next)
unfolding AllStandAt
one_enters g es x r next own same stands [] n all is = absurd (cc)
one_enters g es x r next own same stands (q ∷ rs) zero all is =
    let here = ap (λ (z : Run). z.root) (some_same q r is) in (
      stands,
      subst (λ root. AllByRecursion (λ (later : Run). root < later.root) rs) (here ∙ sym same) all.1,
      higher_stand g es x r.root own rs (subst (λ root. AllByRecursion (λ (later : Run). root < later.root) rs) here all.1) all.2,
    )
one_enters g es x r next own same stands (q ∷ rs) (suc n) all is =
    let higher = at_place (λ (later : Run). q.root < later.root) rs n r all.1 is in (
      one_stands g es x q (not_of x r.root q.root own (λ equal. omega (arith, higher, equal)) (is_of_root q.root x) refl) all.0,
      set_place (λ (later : Run). q.root < later.root) rs n next all.1 (subst (λ root. q.root < root) (sym same) higher),
      one_enters g es x r next own same stands rs n all.2 is,
    )

-- without one
pub one_passes : (g : Setting) (es : List Entry) (r next : Run) → next.root ≡ r.root → StandsAt g es next → (rs : List Run) (n : ℕ) → AllStandAt g es rs → slice_get rs n ≡ Some r
    → AllStandAt g es (slice_set rs n next)
unfolding AllStandAt
one_passes g es r next same stands [] n all is = absurd (cc)
one_passes g es r next same stands (q ∷ rs) zero all is =
    (stands, subst (λ root. AllByRecursion (λ (later : Run). root < later.root) rs) (ap (λ (z : Run). z.root) (some_same q r is) ∙ sym same) all.1, all.2)
one_passes g es r next same stands (q ∷ rs) (suc n) all is =
    let higher = at_place (λ (later : Run). q.root < later.root) rs n r all.1 is in
    (all.0, set_place (λ (later : Run). q.root < later.root) rs n next all.1 (subst (λ root. q.root < root) (sym same) higher), one_passes g es r next same stands rs n all.2 is)

-- ---- a move of a root

module _ (g : Setting) (given : IsGiven g) (es : List Entry) (told : Told) (leads : Leads g es told) (rs : List Run) (n : ℕ) (r next : Run) (all : AllStandAt g es rs) (there : slice_get rs n ≡ Some r) where
  is_its : (e : Option Entry) → root_moves g told.side r ≡ moved next e → IsOfRun r (moved next e)
  is_its e goes = subst (IsOfRun r) goes (move_run g told.side r given)

  pub entered_stand : (x : Entry) → root_moves g told.side r ≡ moved next (Some x) → AllStandAt g (es ++ x ∷ []) (slice_set rs n next)
  entered_stand x goes =
      let before = stands_there g es rs n r all there in
      let kept = is_its (Some x) goes in
      one_enters g es x r next (move_own g told.side r next (Some x) goes) kept.0
      (record {
        root = subst (λ root. is_root g root ≡ true) (sym kept.0) before.root;
        stands = entered x leads goes before.stands;
        named = subst (λ name. is_export_name name ≡ true) (sym kept.1) before.named;
      }) rs n all there

  pub passed_stand : root_moves g told.side r ≡ moved next None → AllStandAt g es (slice_set rs n next)
  passed_stand goes =
      let before = stands_there g es rs n r all there in
      let kept = is_its None goes in
      one_passes g es r next kept.0
      (record {
        root = subst (λ root. is_root g root ≡ true) (sym kept.0) before.root;
        stands = passed leads goes before.stands;
        named = subst (λ name. is_export_name name ≡ true) (sym kept.1) before.named;
      }) rs n all there

-- ---- the roots of a plan

pub is_of_plan : (g : Setting) (root : ℕ) → is_root g root ≡ true → IsRoot g root
is_of_plan g root is =
    let parts = and_parts (nat_lt 0 root) (not (nat_lt (length g.plan.threads) root)) is in
    let first : 0 < root = ltb-true 0 root parts.0 in
    let last : root ≤ length g.plan.threads = ltb-false (length g.plan.threads) root (not-true (nat_lt (length g.plan.threads) root) parts.1) in
    (omega arith, last)

-- ---- at the beginning

within : (root most : ℕ) → 1 ≤ root → root ≤ most → (nat_lt 0 root && not (nat_lt most root)) ≡ true
within root most least less = and_from (nat_lt 0 root) (not (nat_lt most root)) (lt-ltb 0 root (omega (arith, least))) (ap not (le-ltb most root less))

first_higher : (n m : ℕ) (ts : List (List RootStatement)) → n < m → AllByRecursion (λ (later : Run). n < later.root) (first_runs m ts)
unfolding first_runs opening_run
first_higher n m [] less = tt
first_higher n m (t ∷ ts) less = (less, first_higher n (suc m) ts (omega (arith, less)))

manager_exports : is_export_name manager_name ≡ true
unfolding is_export_name
manager_exports = refl

first_stand : (g : Setting) (n : ℕ) (ts : List (List RootStatement)) → 1 ≤ n → n + length ts ≤ suc (length g.plan.threads) → AllStandAt g [] (first_runs n ts)
unfolding AllStandAt first_runs opening_run
first_stand g n [] least most = tt
first_stand g n (t ∷ ts) least most =
    let most_here : n ≤ length g.plan.threads = omega (arith, most) in (
      record { root = within n (length g.plan.threads) least most_here; stands = begun n manager_name; named = manager_exports },
      first_higher n (suc n) ts (omega arith),
      first_stand g (suc n) ts (omega arith) (omega (arith, most)),
    )

pub runs_begin : (g : Setting) → AllStandAt g [] (first_runs 1 g.plan.threads)
runs_begin g = first_stand g 1 g.plan.threads (omega arith) (omega arith)
