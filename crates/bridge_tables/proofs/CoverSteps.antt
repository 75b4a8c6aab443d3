-- Proxies cover what is held, after the steps that code takes.
use Rattle.std.specs.Prelude.{IfNone}
use Rattle.std.proofs.Common.{◌≡◌, ℕ, ◌+◌, ◌-◌, ◌<◌, Bool, true, false, nat_eq, if◌then◌else◌, Option, None, Some, refl, sym, ap, ◌∙◌, subst, is_some}
use Rattle.table_model.specs.Holdings.{hold, holders, holds, held, let_go}
use Rattle.table_model.specs.Pair.{Pair}
use Rattle.table_model.specs.Proxies.{Proxies, proxy, arrived, freed}
use Rattle.table_model.specs.declared.holder.Holder.{Holder}
use Rattle.table_model.proofs.BagLaws.{one_less_one_more}
use Rattle.table_model.proofs.HoldLaws.{hold_order}
use Rattle.bridge_objects.specs.Kept.{Kept, with_hold, without_hold}
use Rattle.bridge_tables.specs.Covered.{AreCovered, gave}
use Rattle.bridge_tables.proofs.Counts.{own_more, again_more, own_less, many_less, none_less, covered_same, covered_arrived, covered_freed, has_proxy}

-- the proxies of an end cover what it holds
abbrev pub Covers : Kept → Proxies → ℕ → Type 0
Covers k proxies kept = AreCovered k.prefix k.holdings proxies kept

-- ---- what a letting go answered

none_held : (b x : Bool) → None ≡ (if b then Some x else None) → b ≡ false
none_held true x is = absurd (cc)
none_held false x is = refl

some_held : (b x y : Bool) → Some y ≡ (if b then Some x else None) → (b ≡ true) × (y ≡ x)
some_held true x y is = (refl, cc)
some_held false x y is = absurd (cc)

module _ (who : Holder) (q : Pair) (old new : Kept) (proxies : Proxies) (kept : ℕ) (covered : Covers old proxies kept) where
  -- ---- an occurrence more

  pub again_covers : new ≡ with_hold (hold who q) old → nat_eq (holders q old.holdings) 0 ≡ false → Covers new proxies kept
  again_covers is some = subst (λ k. Covers k proxies kept) (sym is) (covered_same old.prefix old.holdings (held (hold who q) old.holdings) proxies kept (again_more old.prefix who q old.holdings some) covered)

  pub own_covers : new ≡ with_hold (hold who q) old → gave old.prefix q.oid ≡ true → Covers new proxies kept
  own_covers is own = subst (λ k. Covers k proxies kept) (sym is) (covered_same old.prefix old.holdings (held (hold who q) old.holdings) proxies kept (own_more old.prefix who q old.holdings own) covered)

  pub first_covers : new ≡ with_hold (hold who q) old → gave old.prefix q.oid ≡ false → nat_eq (holders q old.holdings) 0 ≡ true → (after : Proxies) (room : ℕ) → after ≡ arrived q proxies → room ≡ kept + 1
      → Covers new after room
  first_covers is theirs first after room comes more =
      subst (λ k. Covers k after room) (sym is)
      (subst (λ a. AreCovered old.prefix (held (hold who q) old.holdings) a room) (sym comes)
      (subst (λ n. AreCovered old.prefix (held (hold who q) old.holdings) (arrived q proxies) n) (sym more) (covered_arrived old.prefix who q old.holdings proxies kept covered theirs first)))

  -- ---- an occurrence less

  pub unheld_covers : new ≡ without_hold (hold who q) old → (r : Option Bool) → r ≡ None → r ≡ (if holds (hold who q) old.holdings then Some (nat_eq (holders q old.holdings) 1) else None) → Covers new proxies kept
  unheld_covers is r none answer =
      let unheld = none_held (holds (hold who q) old.holdings) (nat_eq (holders q old.holdings) 1) (sym none ∙ answer) in
      subst (λ k. Covers k proxies kept) (sym is) (subst (λ hs. AreCovered old.prefix hs proxies kept) (sym (none_less (hold who q) old.holdings unheld)) covered)

  module _ (is : new ≡ without_hold (hold who q) old) (r : Option Bool) (last : Bool) (some : r ≡ Some last) (answer : r ≡ (if holds (hold who q) old.holdings then Some (nat_eq (holders q old.holdings) 1) else None)) where
    there : (holds (hold who q) old.holdings ≡ true) × (last ≡ nat_eq (holders q old.holdings) 1)
    there = some_held (holds (hold who q) old.holdings) (nat_eq (holders q old.holdings) 1) last (sym some ∙ answer)

    pub many_covers : last ≡ false → Covers new proxies kept
    many_covers many =
        subst (λ k. Covers k proxies kept) (sym is)
        (covered_same old.prefix old.holdings (let_go (hold who q) old.holdings) proxies kept (many_less old.prefix who q old.holdings there.0 (sym there.1 ∙ many)) covered)

    by_own : (b : Bool) → gave old.prefix q.oid ≡ b → last ≡ true → proxy q proxies ≡ None → Covers new proxies kept
    by_own true own one none =
        subst (λ k. Covers k proxies kept) (sym is)
        (covered_same old.prefix old.holdings (let_go (hold who q) old.holdings) proxies kept (own_less old.prefix who q old.holdings there.0 own) covered)
    by_own false theirs one none =
        let found : is_some (proxy q proxies) ≡ true = has_proxy old.prefix who q old.holdings proxies kept covered theirs (sym there.1 ∙ one) in
        let bad : false ≡ true = sym (ap is_some none) ∙ found in absurd (cc)

    pub bare_covers : last ≡ true → proxy q proxies ≡ None → Covers new proxies kept
    bare_covers one none = by_own (gave old.prefix q.oid) refl one none

    pub freed_covers : last ≡ true → (n : ℕ) → proxy q proxies ≡ Some n → (after : Proxies) → after ≡ freed q proxies → (0 < kept) × Covers new after (kept - 1)
    freed_covers one n found after goes =
        let both = covered_freed old.prefix who q old.holdings proxies kept covered there.0 (sym there.1 ∙ one) (ap is_some found) in
        (both.0, subst (λ k. Covers k after (kept - 1)) (sym is) (subst (λ a. AreCovered old.prefix (let_go (hold who q) old.holdings) a (kept - 1)) (sym goes) both.1))

-- what was held last is let go again
pub held_back : (who : Holder) (q : Pair) (old between new : Kept) → between ≡ with_hold (hold who q) old → new ≡ without_hold (hold who q) between → new ≡ old
held_back who q old between new first second = second ∙ ap (without_hold (hold who q)) first ∙ ap (λ hs. record old { holdings = hs }) (one_less_one_more hold_order (hold who q) old.holdings)

-- what holds whatever was answered holds where nothing is
pub at_none : {A P : Type 0} (o : Option A) → P → IfNone o P
at_none None p = p
at_none (Some x) p = tt
