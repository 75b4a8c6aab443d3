-- An identity that an end said is that of an object that was made by then, and names that one ever after.
use Rattle.std.proofs.Common.{◌≡◌, refl, sym, ap, ◌∙◌, subst, ℕ, zero, suc, ◌+◌, ◌≤◌, ◌<◌, ◌^◌, Bool, true, false, is_some, List, [], ◌∷◌, ◌++◌, length, Option, None, Some, arith}
use Rattle.message_model.specs.Messages.{Message}
use Rattle.table_model.specs.Pair.{Pair, pair}
use Rattle.table_model.specs.Stubs.{stub}
use Rattle.bridge_laws.specs.Counting.{total, places, releases_of, owed_by}
use Rattle.bridge_laws.specs.Living.{lives, plan_constants}
use Rattle.bridge_laws.proofs.DebtLaws.{stub_where}
use Rattle.bridge_laws.proofs.LivingLaws.{all_live}
use Rattle.bridge_laws.proofs.Sums.{total_append}
use Rattle.bridge_laws.proofs.TellingLaws.{all_allowed}
use Rattle.bridge_model.specs.Entries.{Entry}
use Rattle.bridge_model.specs.Histories.{Told, Leads}
use Rattle.bridge_model.specs.Objects.{object_numbered, object_named}
use Rattle.bridge_model.specs.Settings.{Setting, is_own, own_oid}
use Rattle.bridge_model.specs.Sides.{Object, stands}
use Rattle.bridge_laws.specs.Numbers.{behaviour_in, behaviour_named}
use Rattle.bridge_laws.proofs.ObjectKeepingLaws.{number_is, all_numbered, objects_stay}
use Rattle.world_model.specs.Balances.{held_by}
use Rattle.world_model.specs.Flights.{flight, Follows}
use Rattle.world_model.specs.Meetings.{Meets, begins, a_moves, b_moves}
use Rattle.world_model.specs.Setups.{AreSetUp, BothGive}
use Rattle.world_model.specs.Worlds.{Settings, of_a, of_b, World, Event, entries_of}
use Rattle.world_model.specs.declared.side.Side.TheVariants.{A, B}
use Rattle.world_laws.proofs.FlightLaws.{releases_said}
use Rattle.world_laws.proofs.LastLaws.{both_last, meets_linked, last_linked}
use Rattle.world_laws.proofs.NamesLaws.{stub_has}
use Rattle.world_laws.proofs.RunLaws.{a_pushed, a_same, b_pushed, b_same, both_lead}
use Rattle.world_laws.proofs.SaidLaws.{fit, gives_before_a, gives_before_b, both_well}
use Rattle.world_laws.proofs.WorldLaws.{balance, paired_there, paired_back}

-- ---- one end

-- an identity is that of a number that was given
pub record WasMade (g : Setting) (x : Told) (oid : List ℕ) : Type 0 where
  pub number : ℕ
  pub named : oid ≡ own_oid g number
  pub given : number ≤ x.side.tables.objects_made

behaves_by : (o : Option Object) → is_some o ≡ true → (k : ℕ) × (behaviour_in o ≡ Some k)
behaves_by None is = absurd (cc)
behaves_by (Some o) is = (o.behaviour, refl)

-- what has a stub was made
made_of_stub : (g : Setting) (es : List Entry) (x : Told) (p : Pair) → plan_constants g.plan ≡ [] → Leads g es x → is_own g p.oid ≡ true → is_some (stub p x.side.tables.stubs) ≡ true → WasMade g x p.oid
made_of_stub g es x p closed leads mine there =
    let alive = (all_live g es x closed (all_allowed g es x leads).told leads).sent p.oid mine (stub_has p.oid p.face x.side.tables.stubs there) in
    let behaves = behaves_by (object_named g p.oid x.side.tables.objects) alive in
    let has = number_is g p.oid x.side.tables.objects behaves.0 behaves.1 in
    let given = (all_numbered g es x leads).given has.number has.some in
    record { number = has.number; named = has.named; given = given.1 }

-- and so it was later
pub made_later : (g : Setting) (es later : List Entry) (x y : Told) (oid : List ℕ) → Leads g es x → Leads g (es ++ later) y → WasMade g x oid → WasMade g y oid
made_later g es later x y oid leads to was =
    let more = (objects_stay g es later x y leads to).made in let given = was.given in record { number = was.number; named = was.named; given = omega arith }

-- where more was said of a pair than nothing, and no release of it came
unreleased : (g : Setting) (es : List Entry) (x : Told) (p : Pair) → plan_constants g.plan ≡ [] → Leads g es x → stands x.side ≡ true → is_own g p.oid ≡ true
    → 1 ≤ total (places g.registry p) x.said → total (releases_of p) x.got ≡ 0 → WasMade g x p.oid
unreleased g es x p closed leads up mine some none = made_of_stub g es x p closed leads mine ((stub_where g es x p leads up).1 (omega arith))

nothing_said : (g : Setting) (p : Pair) → 1 ≤ total (places g.registry p) [] → ⊥
unfolding total
nothing_said g p some = omega arith

-- ---- both

module _ (g : Settings) (up : AreSetUp g) (p : Pair) where
  -- no release of what was not said was said
  unsaid_a : (es : List Event) (w : World) (met : Meets g es w) → BothGive g es → is_own (of_a g) p.oid ≡ true → total (places g.registry p) w.a.now.said ≡ 0 → total (releases_of p) w.b.now.said ≡ 0
  unsaid_a es w met gives mine none =
      let last = both_last g es w met in
      let sum = balance _ _ _ _ w.a.last w.b.last (paired_there g (fit g up) es w met (both_well g up es w met gives)) p mine in
      let said = ap (total (places g.registry p)) last.a.said in
      let all = releases_said g.registry p w.b.last w.a.last (last_linked g es w met).back in
      let other = ap (total (releases_of p)) last.b.said in omega arith

  unsaid_b : (es : List Event) (w : World) (met : Meets g es w) → BothGive g es → is_own (of_b g) p.oid ≡ true → total (places g.registry p) w.b.now.said ≡ 0 → total (releases_of p) w.a.now.said ≡ 0
  unsaid_b es w met gives mine none =
      let last = both_last g es w met in
      let sum = balance _ _ _ _ w.b.last w.a.last (paired_back g (fit g up) es w met (both_well g up es w met gives)) p mine in
      let said = ap (total (places g.registry p)) last.b.said in
      let all = releases_said g.registry p w.a.last w.b.last (last_linked g es w met).there in
      let other = ap (total (releases_of p)) last.a.said in omega arith

  -- what was just said was made
  fresh_a : (es : List Event) (w : World) (met : Meets g es w) → is_own (of_a g) p.oid ≡ true → 1 ≤ total (places g.registry p) w.a.now.said → total (releases_of p) w.b.now.said ≡ 0
      → WasMade (of_a g) w.a.now p.oid
  fresh_a es w met mine some none =
      let last = (both_last g es w met).a in
      let said = ap (total (places g.registry p)) last.said in
      let came = releases_said g.registry p w.b.now w.a.now (meets_linked g es w met).back in
      let got = ap (total (releases_of p)) last.got in
      made_later (of_a g) last.before last.behind w.a.last w.a.now p.oid last.leads (subst (λ fs. Leads (of_a g) fs w.a.now) last.journal (both_lead g es w met).a)
      (unreleased (of_a g) last.before w.a.last p (fit g up).closed_a last.leads last.up mine (omega arith) (omega arith))

  fresh_b : (es : List Event) (w : World) (met : Meets g es w) → is_own (of_b g) p.oid ≡ true → 1 ≤ total (places g.registry p) w.b.now.said → total (releases_of p) w.a.now.said ≡ 0
      → WasMade (of_b g) w.b.now p.oid
  fresh_b es w met mine some none =
      let last = (both_last g es w met).b in
      let said = ap (total (places g.registry p)) last.said in
      let came = releases_said g.registry p w.a.now w.b.now (meets_linked g es w met).there in
      let got = ap (total (releases_of p)) last.got in
      made_later (of_b g) last.before last.behind w.b.last w.b.now p.oid last.leads (subst (λ fs. Leads (of_b g) fs w.b.now) last.journal (both_lead g es w met).b)
      (unreleased (of_b g) last.before w.b.last p (fit g up).closed_b last.leads last.up mine (omega arith) (omega arith))

  -- what was said at any time was made by then
  pub said_was_made_a : is_own (of_a g) p.oid ≡ true → (es : List Event) (w : World) → Meets g es w → BothGive g es → 1 ≤ total (places g.registry p) w.a.now.said → WasMade (of_a g) w.a.now p.oid
  said_was_made_a mine es w begins gives some = absurd (nothing_said (of_a g) p some)
  said_was_made_a mine es' w' (b_moves es w e after met m) gives some = said_was_made_a mine es w met (gives_before_b g es e gives) some
  said_was_made_a mine es' w' (a_moves es w e after met m) gives some =
      by_count (λ more. said_was_made_a mine es w met (gives_before_a g es e gives) more) (total (places g.registry p) w.a.now.said) refl
    where
      by_count : (1 ≤ total (places g.registry p) w.a.now.said → WasMade (of_a g) w.a.now p.oid) → (n : ℕ) → total (places g.registry p) w.a.now.said ≡ n → WasMade (of_a g) after.now p.oid
      by_count before zero none =
          fresh_a (es ++ record { side = A; entry = e } ∷ []) (record { a = after; b = w.b }) (a_moves es w e after met m) mine some (unsaid_a es w met (gives_before_a g es e gives) mine none)
      by_count before (suc n) more =
          made_later (of_a g) (entries_of A es) (e ∷ []) w.a.now after.now p.oid (both_lead g es w met).a
          (subst (λ fs. Leads (of_a g) fs after.now) (a_pushed es e) (both_lead g (es ++ record { side = A; entry = e } ∷ []) (record { a = after; b = w.b }) (a_moves es w e after met m)).a)
          (before (omega arith))

  pub said_was_made_b : is_own (of_b g) p.oid ≡ true → (es : List Event) (w : World) → Meets g es w → BothGive g es → 1 ≤ total (places g.registry p) w.b.now.said → WasMade (of_b g) w.b.now p.oid
  said_was_made_b mine es w begins gives some = absurd (nothing_said (of_b g) p some)
  said_was_made_b mine es' w' (a_moves es w e after met m) gives some = said_was_made_b mine es w met (gives_before_a g es e gives) some
  said_was_made_b mine es' w' (b_moves es w e after met m) gives some =
      by_count (λ more. said_was_made_b mine es w met (gives_before_b g es e gives) more) (total (places g.registry p) w.b.now.said) refl
    where
      by_count : (1 ≤ total (places g.registry p) w.b.now.said → WasMade (of_b g) w.b.now p.oid) → (n : ℕ) → total (places g.registry p) w.b.now.said ≡ n → WasMade (of_b g) after.now p.oid
      by_count before zero none =
          fresh_b (es ++ record { side = B; entry = e } ∷ []) (record { a = w.a; b = after }) (b_moves es w e after met m) mine some (unsaid_b es w met (gives_before_b g es e gives) mine none)
      by_count before (suc n) more =
          made_later (of_b g) (entries_of B es) (e ∷ []) w.b.now after.now p.oid (both_lead g es w met).b
          (subst (λ fs. Leads (of_b g) fs after.now) (b_pushed es e) (both_lead g (es ++ record { side = B; entry = e } ∷ []) (record { a = w.a; b = after }) (b_moves es w e after met m)).b)
          (before (omega arith))
