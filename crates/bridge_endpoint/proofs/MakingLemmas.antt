-- Entries for which room was taken: where they may stand, and what is kept behind them.
use Rattle.std.proofs.Common.{◌≡◌, refl, ap, ◌∙◌, ℕ, ◌+◌, ◌-◌, ◌<◌, ◌≤◌, ◌^◌, true, false, List, arith}
use Rattle.uno_model.specs.Values.{Plain}
use Rattle.bridge_journal.specs.Logs.{Log, entered}
use Rattle.bridge_laws.proofs.CountedLaws.{does_counts}
use Rattle.bridge_model.specs.Entries.{Entry, asked, called, made, queried}
use Rattle.bridge_model.specs.Roots.{holds_pair}
use Rattle.bridge_model.specs.Settings.{Setting}
use Rattle.bridge_model.specs.Sides.{Side, stands}
use Rattle.bridge_model.specs.Steps.{counted, does, has_entries, is_root, may, may_begin, may_give}
use Rattle.bridge_laws.specs.Room.{brought, is_free}
use Rattle.bridge_state.specs.EndSides.{EndSide, on_side}
use Rattle.bridge_laws.specs.Giving.{MayGive}
use Rattle.bridge_endpoint.specs.Kept.{IsKept}
use Rattle.bridge_endpoint.proofs.KeptLaws.{brought_kept, free_kept, free_room}
use Rattle.bridge_endpoint.specs.Entering.{IsWithin, with_room}

-- ---- where an entry may stand

module _ (g : Setting) (s : Side) (up : stands s ≡ true) (few : has_entries s ≡ false) where
  pub may_ask : (root : ℕ) (name wanted : List ℕ) → may_begin g root s ≡ true → may g s (asked root name wanted) ≡ true
  unfolding may
  may_ask root name wanted idle = rw (up, few) idle

  pub may_call : (root : ℕ) (oid face : List ℕ) (function : ℕ) (args : List Plain) → may_begin g root s ≡ true → holds_pair root oid face s.tables ≡ true → may_give g root args s ≡ true
      → may g s (called root oid face function args) ≡ true
  unfolding may
  may_call root oid face function args idle holds gives = rw (up, few, idle, holds) gives

  pub call_not_held : (root : ℕ) (oid face : List ℕ) (function : ℕ) (args : List Plain) → may_begin g root s ≡ true → holds_pair root oid face s.tables ≡ false → may g s (called root oid face function args) ≡ false
  unfolding may
  call_not_held root oid face function args idle bad = rw (up, few, idle, bad) refl

  pub call_not_given : (root : ℕ) (oid face : List ℕ) (function : ℕ) (args : List Plain) → may_begin g root s ≡ true → holds_pair root oid face s.tables ≡ true → may_give g root args s ≡ false
      → may g s (called root oid face function args) ≡ false
  unfolding may
  call_not_given root oid face function args idle holds bad = rw (up, few, idle, holds) bad

  pub may_query : (root : ℕ) (oid face wanted : List ℕ) → may_begin g root s ≡ true → holds_pair root oid face s.tables ≡ true → may g s (queried root oid face wanted) ≡ true
  unfolding may
  may_query root oid face wanted idle holds = rw (up, few, idle) holds

  pub query_not_held : (root : ℕ) (oid face wanted : List ℕ) → may_begin g root s ≡ true → holds_pair root oid face s.tables ≡ false → may g s (queried root oid face wanted) ≡ false
  unfolding may
  query_not_held root oid face wanted idle bad = rw (up, few, idle) bad

  pub may_make : (root behaviour : ℕ) (wanted : List ℕ) → is_root g root ≡ true → may g s (made root behaviour wanted) ≡ true
  unfolding may
  may_make root behaviour wanted of_plan = rw (up, few) of_plan

-- ---- what is kept

module _ {g : Setting} {roots : ℕ} {e : EndSide} {l : Log} (kept : IsKept g roots e l) (x : Entry) (fine : may g e.side x ≡ true) (gives : MayGive g x) (f : EndSide) (after : Log)
    (is : f ≡ on_side (λ s. counted x (does g x s).side) e) where
  -- so much more room was taken
  pub made_kept : (n : ℕ) → brought g e.side x ≤ n → after ≡ with_room (l.room + n) (entered x l) → IsWithin after → IsKept g roots f after
  made_kept n enough done within =
      brought_kept g roots e l x f after kept fine gives is (ap (λ y. y.entries) done)
      (let room : after.room ≡ l.room + n = ap (λ y. y.room) done in omega (arith, enough, room))
      within

  -- or it was there
  pub freely_kept : is_free x ≡ true → after ≡ entered x l → IsKept g roots f after
  freely_kept free done = free_kept g roots e l x f after kept fine free gives is done

pub room_for : {g : Setting} {roots : ℕ} {e : EndSide} {l : Log} → IsKept g roots e l → (x : Entry) → may g e.side x ≡ true → is_free x ≡ true → 0 < l.room
room_for {g} {roots} {e} {l} kept x fine free = free_room g roots e l x kept fine free

-- ---- how many entries count

pub few_by : (g : Setting) (x : Entry) (e f : EndSide) → f ≡ on_side (λ s. (does g x s).side) e → e.side.entries < 2 ^ 64 - 1 → f.side.entries < 2 ^ 64 - 1
few_by g x e f is less =
    let here : f.side.entries ≡ e.side.entries = ap (λ y. y.side.entries) is ∙ does_counts g x e.side in omega (arith, here, less)
