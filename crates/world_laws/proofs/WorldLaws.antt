-- Balance, Standing and what follows of them, over every run of messages, of each end as it last stood.
use Rattle.std.proofs.Common.{◌≡◌, refl, ap, subst, ℕ, ◌+◌, ◌≤◌, ◌<◌, Bool, true, false, List, [], ◌∷◌, is_some, arith}
use Rattle.message_model.specs.Messages.{Message}
use Rattle.uno_model.specs.BuiltIn.{HasBuiltIn}
use Rattle.uno_model.specs.Sound.{IsSound}
use Rattle.table_model.specs.Pair.{Pair}
use Rattle.table_model.specs.Stubs.{stub}
use Rattle.bridge_model.specs.Entries.{Entry}
use Rattle.bridge_model.specs.Histories.{Told, Leads}
use Rattle.bridge_model.specs.References.{is_held}
use Rattle.bridge_model.specs.Settings.{Setting, is_own}
use Rattle.bridge_model.specs.Sides.{stands}
use Rattle.bridge_laws.specs.Counting.{total, one_if, places, releases_of}
use Rattle.bridge_laws.specs.Living.{plan_constants}
use Rattle.bridge_laws.specs.Standing.{uses, Stands, asks_names}
use Rattle.bridge_laws.proofs.DebtLaws.{stub_where}
use Rattle.world_model.specs.Balances.{held_by, Balance}
use Rattle.world_model.specs.Flights.{flight, AreLinked}
use Rattle.world_model.specs.Meetings.{Meets}
use Rattle.world_model.specs.Sayings.{AreWellSaid}
use Rattle.world_model.specs.Worlds.{Settings, of_a, of_b, AreJoined, World, Event, entries_of}
use Rattle.world_model.specs.declared.side.Side.TheVariants.{A, B}
use Rattle.world_laws.proofs.Fit.{AreFit, BothWellSaid}
use Rattle.world_laws.proofs.LastLaws.{both_last, last_linked}
use Rattle.world_laws.proofs.BalanceLaws.{balanced, standing}

-- two ends that stand, each led to by its entries, of which what came is what was said
pub record ArePaired (g h : Setting) (es fs : List Entry) (x y : Told) : Type 0 where
  pub sound : IsSound g.registry
  pub built : HasBuiltIn g.registry
  pub joined : AreJoined g h
  pub closed : plan_constants h.plan ≡ []
  pub one : Leads g es x
  pub other : Leads h fs y
  pub up : stands x.side ≡ true
  pub also : stands y.side ≡ true
  pub well : AreWellSaid g x.said
  pub linked : AreLinked g.registry x y

module _ (g h : Setting) (es fs : List Entry) (x y : Told) (are : ArePaired g h es fs x y) where
  pub balance : Balance g x y
  balance = balanced g h fs x y are.sound are.built are.joined are.closed are.other are.also are.well are.linked

  -- what is on its way back or held is owed
  owed_by_parts : (p : Pair) → is_own g p.oid ≡ true → 1 ≤ held_by p y + total (releases_of p) (flight y x) → is_some (stub p x.side.tables.stubs) ≡ true
  owed_by_parts p mine some =
      let sum = balance p mine in
      let less : total (releases_of p) x.got < total (places g.registry p) x.said = omega arith in
      (stub_where g es x p are.one are.up).1 less

  -- a pair that is held has a stub
  pub held_has_stub : (p : Pair) → is_own g p.oid ≡ true → is_held p.oid p.face y.side.tables ≡ true → is_some (stub p x.side.tables.stubs) ≡ true
  held_has_stub p mine held = let one = ap one_if held in owed_by_parts p mine (omega arith)

  counts_first : (p : Pair) (m : Message) (ms : List Message) → total (releases_of p) (m ∷ ms) ≡ releases_of p m + total (releases_of p) ms
  unfolding total
  counts_first p m ms = refl

  -- a release that arrives is owed
  pub release_owed : (p : Pair) (m : Message) (ms : List Message) → is_own g p.oid ≡ true → flight y x ≡ m ∷ ms → 1 ≤ releases_of p m → is_some (stub p x.side.tables.stubs) ≡ true
  release_owed p m ms mine flies one =
      let same = ap (total (releases_of p)) flies in let first = counts_first p m ms in owed_by_parts p mine (omega arith)

  first_stands : (p : Pair) (held : ℕ) (m : Message) (ms : List Message) → Stands p held (m ∷ ms) → 1 ≤ uses p m → 1 ≤ held + total (releases_of p) ms
  unfolding Stands
  first_stands p held m ms all used = all.0 used

  -- what a message that arrives uses of this end has a stub
  pub used_has_stub : (p : Pair) (m : Message) (ms : List Message) → is_own g p.oid ≡ true → asks_names fs ≡ true → flight y x ≡ m ∷ ms → 1 ≤ uses p m
      → is_some (stub p x.side.tables.stubs) ≡ true
  used_has_stub p m ms mine other flies used =
      let all = subst (Stands p (held_by p y)) flies (standing g h fs x y are.joined are.closed are.other are.also are.linked.back p mine other) in
      let behind = first_stands p (held_by p y) m ms all used in
      let same = ap (total (releases_of p)) flies in
      let first = counts_first p m ms in owed_by_parts p mine (omega arith)

-- ---- both ways

apart_back : (x y : Setting) → AreJoined x y → (name : List ℕ) → is_own y name ≡ true → (b : Bool) → is_own x name ≡ b → b ≡ false
apart_back x y apart name is true mine = let other = apart name mine in absurd (cc)
apart_back x y apart name is false mine = refl

pub other_apart : (x y : Setting) → AreJoined x y → AreJoined y x
other_apart x y apart name is = apart_back x y apart name is (is_own x name) refl

pub paired_there : (g : Settings) → AreFit g → (es : List Event) (w : World) (met : Meets g es w) → BothWellSaid g w
    → ArePaired (of_a g) (of_b g) (both_last g es w met).a.before (both_last g es w met).b.before w.a.last w.b.last
paired_there g fit es w met well =
    let last = both_last g es w met in
    record {
      sound = fit.sound;
      built = fit.built;
      joined = fit.apart;
      closed = fit.closed_b;
      one = last.a.leads;
      other = last.b.leads;
      up = last.a.up;
      also = last.b.up;
      well = subst (AreWellSaid (of_a g)) last.a.said well.a;
      linked = last_linked g es w met;
    }

pub paired_back : (g : Settings) → AreFit g → (es : List Event) (w : World) (met : Meets g es w) → BothWellSaid g w
    → ArePaired (of_b g) (of_a g) (both_last g es w met).b.before (both_last g es w met).a.before w.b.last w.a.last
paired_back g fit es w met well =
    let last = both_last g es w met in
    let linked = last_linked g es w met in
    record {
      sound = fit.sound;
      built = fit.built;
      joined = other_apart (of_a g) (of_b g) fit.apart;
      closed = fit.closed_a;
      one = last.b.leads;
      other = last.a.leads;
      up = last.b.up;
      also = last.a.up;
      well = subst (AreWellSaid (of_b g)) last.b.said well.b;
      linked = record { there = linked.back; back = linked.there };
    }

pub standing_a : (g : Settings) → AreFit g → (es : List Event) (w : World) → Meets g es w → BothWellSaid g w → (p : Pair) → is_own (of_a g) p.oid ≡ true
    → asks_names (entries_of B es) ≡ true → Stands p (held_by p w.b.last) (flight w.b.last w.a.last)
unfolding asks_names
standing_a g fit es w met well p mine other =
    let last = both_last g es w met in
    let are = paired_there g fit es w met well in
    standing (of_a g) (of_b g) last.b.before w.a.last w.b.last are.joined are.closed are.other are.also are.linked.back p mine (last.b.within _ other)

pub standing_b : (g : Settings) → AreFit g → (es : List Event) (w : World) → Meets g es w → BothWellSaid g w → (p : Pair) → is_own (of_b g) p.oid ≡ true
    → asks_names (entries_of A es) ≡ true → Stands p (held_by p w.a.last) (flight w.a.last w.b.last)
unfolding asks_names
standing_b g fit es w met well p mine other =
    let last = both_last g es w met in
    let are = paired_back g fit es w met well in
    standing (of_b g) (of_a g) last.a.before w.b.last w.a.last are.joined are.closed are.other are.also are.linked.back p mine (last.a.within _ other)

pub used_a : (g : Settings) → AreFit g → (es : List Event) (w : World) → Meets g es w → BothWellSaid g w → (p : Pair) (m : Message) (ms : List Message) → is_own (of_a g) p.oid ≡ true
    → asks_names (entries_of B es) ≡ true → flight w.b.last w.a.last ≡ m ∷ ms → 1 ≤ uses p m → is_some (stub p w.a.last.side.tables.stubs) ≡ true
unfolding asks_names
used_a g fit es w met well p m ms mine other flies used =
    let last = both_last g es w met in used_has_stub (of_a g) (of_b g) _ _ w.a.last w.b.last (paired_there g fit es w met well) p m ms mine (last.b.within _ other) flies used

pub used_b : (g : Settings) → AreFit g → (es : List Event) (w : World) → Meets g es w → BothWellSaid g w → (p : Pair) (m : Message) (ms : List Message) → is_own (of_b g) p.oid ≡ true
    → asks_names (entries_of A es) ≡ true → flight w.a.last w.b.last ≡ m ∷ ms → 1 ≤ uses p m → is_some (stub p w.b.last.side.tables.stubs) ≡ true
unfolding asks_names
used_b g fit es w met well p m ms mine other flies used =
    let last = both_last g es w met in used_has_stub (of_b g) (of_a g) _ _ w.b.last w.a.last (paired_back g fit es w met well) p m ms mine (last.a.within _ other) flies used
