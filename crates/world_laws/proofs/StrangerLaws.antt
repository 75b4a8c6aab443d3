-- A name that neither end gave is never named to either, in every run of messages: it is called only to ask for an export.
use Rattle.std.proofs.Common.{◌≡◌, refl, sym, ap, ◌∙◌, subst, ℕ, ◌+◌, ◌≤◌, inl, inr, true, false, List, [], ◌∷◌, ◌++◌, zero, suc, arith}
use Rattle.std.specs.List.{AllByRecursion}
use Rattle.message_model.specs.Messages.{Message}
use Rattle.uno_model.specs.Entities.{Entity}
use Rattle.table_model.specs.Pair.{Pair, pair}
use Rattle.bridge_model.specs.Entries.{Entry}
use Rattle.bridge_model.specs.Histories.{Told, Leads}
use Rattle.bridge_model.specs.References.{is_held}
use Rattle.bridge_model.specs.Settings.{Setting, is_own}
use Rattle.bridge_model.specs.Sides.{stands}
use Rattle.bridge_laws.specs.Counting.{total, one_if, brings, releases_of}
use Rattle.bridge_laws.specs.Living.{plan_constants}
use Rattle.bridge_laws.specs.Standing.{uses, Stands, asks_by_name, asks_names}
use Rattle.bridge_laws.proofs.PaidLaws.{all_paid}
use Rattle.bridge_laws.proofs.StandingHistoryLaws.{all_stand}
use Rattle.bridge_laws.proofs.Sums.{total_append}
use Rattle.bridge_laws.proofs.TellingLaws.{all_allowed}
use Rattle.bridge_laws.specs.Giving.{RootsGive}
use Rattle.bridge_laws.specs.Telling.{IsRightlySaid, AreRightlySaid}
use Rattle.world_model.specs.Flights.{flight, Follows, IsNext}
use Rattle.world_model.specs.Meetings.{Moves, Meets, begins, a_moves, b_moves}
use Rattle.world_model.specs.Setups.{AreSetUp, BothGive}
use Rattle.world_model.specs.Worlds.{Settings, of_a, of_b, End, World, Event, entries_of}
use Rattle.world_model.specs.declared.side.Side.TheVariants.{A, B}
use Rattle.world_laws.proofs.FlightLaws.{flight_is}
use Rattle.world_laws.proofs.LastLaws.{LastStood, both_last, meets_linked}
use Rattle.world_laws.proofs.ReferredLaws.{brings_none}
use Rattle.world_laws.proofs.SaidLaws.{fit, all_names, gives_before_a, gives_before_b, stays_a, stays_b}

-- ---- one end

zero_of : (n : ℕ) → (1 ≤ n → ⊥) → n ≡ 0
zero_of zero no_more = refl
zero_of (suc n) no_more = absurd (no_more (omega arith))

stands_none : (p : Pair) (held : ℕ) (ms : List Message) → Stands p held ms → held + total (releases_of p) ms ≡ 0 → total (uses p) ms ≡ 0
unfolding Stands total
stands_none p held [] all none = refl
stands_none p held (m ∷ ms) all none =
    let here = zero_of (uses p m) (λ used. let some = all.0 used in omega arith) in
    let rest = stands_none p held ms all.1 (omega arith) in omega arith

-- a pair of which nothing came is neither used nor released
pub record Idle (p : Pair) (said : List Message) : Type 0 where
  pub unused : total (uses p) said ≡ 0
  pub unreleased : total (releases_of p) said ≡ 0

idle : (g : Setting) (es : List Entry) (x : Told) (p : Pair) → plan_constants g.plan ≡ [] → asks_names es ≡ true → Leads g es x → stands x.side ≡ true → is_own g p.oid ≡ false
    → total (brings g p) x.got ≡ 0 → Idle p x.said
idle g es x p closed names leads up foreign none =
    let told = (all_allowed g es x leads).told in
    let paid = all_paid g es x p closed told leads up foreign in
    let behind = all_stand g es x p closed told names leads up foreign in
    record { unused = stands_none p (one_if (is_held p.oid p.face x.side.tables)) x.said behind (omega arith); unreleased = omega arith }

pub idle_at : (g : Setting) (es : List Entry) (one : End) (p : Pair) → plan_constants g.plan ≡ [] → RootsGive g es → LastStood g es one → is_own g p.oid ≡ false
    → total (brings g p) one.now.got ≡ 0 → Idle p one.now.said
unfolding asks_names
idle_at g es one p closed gives last foreign none =
    subst (Idle p) (sym last.said)
    (idle g last.before one.last p closed (last.within asks_by_name (all_names g es gives)) last.leads last.up foreign (ap (total (brings g p)) (sym last.got) ∙ none))

-- ---- what is in flight

pub flies_less : (f : Message → ℕ) (reg : List Entity) (x y : Told) → Follows reg x y → total f (flight x y) ≤ total f x.said
flies_less f reg x y follows =
    let whole = ap (total f) follows.said in let parts = total_append f follows.front follows.rest in let flies = ap (total f) (flight_is reg x y follows) in omega arith

all_behind : (P : Message → Type 0) (front rest : List Message) → AllByRecursion P (front ++ rest) → AllByRecursion P rest
all_behind P [] rest all = all
all_behind P (m ∷ front) rest all = all_behind P front rest all.1

pub flies_rightly : (h : Setting) (reg : List Entity) (x y : Told) → Follows reg x y → AreRightlySaid h x.said → AreRightlySaid h (flight x y)
flies_rightly h reg x y follows all =
    subst (AreRightlySaid h) (sym (flight_is reg x y follows)) (all_behind (IsRightlySaid h) follows.front follows.rest (subst (AreRightlySaid h) follows.said all))

-- ---- a move

module _ (x y : Setting) (oid : List ℕ) (foreign : is_own y oid ≡ false) (same : y.registry ≡ x.registry) where
  next_none : (flying got : List Message) → IsNext y.registry flying got → AreRightlySaid y flying → ((f : List ℕ) → total (uses (pair oid f)) flying ≡ 0) → (face : List ℕ)
      → total (brings x (pair oid face)) got ≡ 0
  unfolding total
  next_none flying got (inl none) all unused face = ap (total (brings x (pair oid face))) none
  next_none flying got (inr (m, rest, flies, is)) all unused face =
      let head = (subst (AreRightlySaid y) flies all).0 in
      let one = brings_none x y oid foreign m same head (λ f. let all_none = unused f in let parts = ap (total (uses (pair oid f))) flies in omega arith) face in
      let whole = ap (total (brings x (pair oid face))) is in omega arith

  moved_none : (one other after : End) (e : Entry) → Moves x one other e after → Follows y.registry other.now one.now → AreRightlySaid y other.now.said
      → ((f : List ℕ) → total (uses (pair oid f)) other.now.said ≡ 0) → ((f : List ℕ) → total (brings x (pair oid f)) one.now.got ≡ 0) → (face : List ℕ)
      → total (brings x (pair oid face)) after.now.got ≡ 0
  moved_none one other after e m follows all unused before face =
      let comes = subst (λ reg. IsNext reg (flight other.now one.now) m.turn.got) (sym same) m.comes in
      let new = next_none (flight other.now one.now) m.turn.got comes (flies_rightly y y.registry other.now one.now follows all)
      (λ f. let less = flies_less (uses (pair oid f)) y.registry other.now one.now follows in let none = unused f in omega arith) face in
      let old = before face in
      let parts = total_append (brings x (pair oid face)) one.now.got m.turn.got in
      let now = ap (λ (z : End). total (brings x (pair oid face)) z.now.got) m.becomes in omega arith

-- ---- runs

pub record Unheard (x y : Setting) (w : World) (oid : List ℕ) : Type 0 where
  pub a : (face : List ℕ) → total (brings x (pair oid face)) w.a.now.got ≡ 0
  pub b : (face : List ℕ) → total (brings y (pair oid face)) w.b.now.got ≡ 0

module _ (g : Settings) (up : AreSetUp g) (oid : List ℕ) (not_a : is_own (of_a g) oid ≡ false) (not_b : is_own (of_b g) oid ≡ false) where
  idle_a : (es : List Event) (w : World) → Meets g es w → BothGive g es → ((f : List ℕ) → total (brings (of_a g) (pair oid f)) w.a.now.got ≡ 0) → (f : List ℕ) → Idle (pair oid f) w.a.now.said
  idle_a es w met gives none f = idle_at (of_a g) (entries_of A es) w.a (pair oid f) (fit g up).closed_a gives.a (both_last g es w met).a not_a (none f)

  idle_b : (es : List Event) (w : World) → Meets g es w → BothGive g es → ((f : List ℕ) → total (brings (of_b g) (pair oid f)) w.b.now.got ≡ 0) → (f : List ℕ) → Idle (pair oid f) w.b.now.said
  idle_b es w met gives none f = idle_at (of_b g) (entries_of B es) w.b (pair oid f) (fit g up).closed_b gives.b (both_last g es w met).b not_b (none f)

  pub unheard : (es : List Event) (w : World) → Meets g es w → BothGive g es → Unheard (of_a g) (of_b g) w oid
  unfolding total
  unheard es w begins gives = record { a = λ face. refl; b = λ face. refl }
  unheard es' w' (a_moves es w e after met m) gives' =
      let gives = gives_before_a g es e gives' in
      let before = unheard es w met gives in
      let said = stays_b g up es w met gives in
      record {
        a = moved_none (of_a g) (of_b g) oid not_b refl w.a w.b after e m (meets_linked g es w met).back said.said (λ f. (idle_b es w met gives before.b f).unused) before.a;
        b = before.b;
      }
  unheard es' w' (b_moves es w e after met m) gives' =
      let gives = gives_before_b g es e gives' in
      let before = unheard es w met gives in
      let said = stays_a g up es w met gives in
      record {
        a = before.a;
        b = moved_none (of_b g) (of_a g) oid not_a refl w.b w.a after e m (meets_linked g es w met).there said.said (λ f. (idle_a es w met gives before.a f).unused) before.b;
      }

  -- so neither uses nor releases it
  pub strange_a : (es : List Event) (w : World) → Meets g es w → BothGive g es → (f : List ℕ) → Idle (pair oid f) w.a.now.said
  strange_a es w met gives = idle_a es w met gives (unheard es w met gives).a

  pub strange_b : (es : List Event) (w : World) → Meets g es w → BothGive g es → (f : List ℕ) → Idle (pair oid f) w.b.now.said
  strange_b es w met gives = idle_b es w met gives (unheard es w met gives).b
