-- A use of a name, in the library's cache and in what a contract sees of it.
use Rattle.std.proofs.Common.{◌≡◌, ℕ, true, false, List, Vec, bytes_eq, sym, ◌∙◌, ap, subst}
use Rattle.lru.specs.LruCache.{LruCache, lru_cache, promoted, put_entries}
use Rattle.urp_model.specs.Held.{CanBeHeld, holds, next_slot, slot_for, used}
use Rattle.urp_model.proofs.HeldBounds.{used_can_be_held}
use Rattle.urp_cache.specs.SendCache.{plain}
use Rattle.urp_cache.proofs.Views.{is_key, used_again, used_anew, absent_next}

-- the library's cache has 256 places, and what it holds can be held
abbrev pub IsSender : {Z : Type 0} → LruCache (Vec ℕ Z) ℕ → Type 0
IsSender c = (c.cap ≡ 256) × CanBeHeld (plain c.entries)

-- a cache whose entries are those after a use
kept : {Z : Type 0} (name : List ℕ) (held : List (List ℕ × ℕ)) (c : LruCache (Vec ℕ Z) ℕ) → c.cap ≡ 256 → CanBeHeld held → plain c.entries ≡ used name held → IsSender c
kept name held c size can is = (size, subst CanBeHeld (sym is) (used_can_be_held name held can))

module _ {Z : Type 0} (name : List ℕ) (held : List (List ℕ × ℕ)) (c d : LruCache (Vec ℕ Z) ℕ) (view : plain c.entries ≡ held) (is : IsSender c) where
  -- after `promote`
  pub again_used : holds name held ≡ true → d ≡ lru_cache (promoted (is_key name) c.entries) c.cap → plain d.entries ≡ used name held
  again_used told new =
      let entries : plain d.entries ≡ plain (promoted (is_key name) c.entries) = ap (λ x. plain x.entries) new in
      let there : holds name (plain c.entries) ≡ true = subst (λ h. holds name h ≡ true) (sym view) told in
      entries ∙ (used_again name c.entries is.1 there ∙ ap (used name) view)

  pub again_kept : holds name held ≡ true → d ≡ lru_cache (promoted (is_key name) c.entries) c.cap → IsSender d
  again_kept told new = kept name held d (ap (λ x. x.cap) new ∙ is.0) (subst CanBeHeld view is.1) (again_used told new)

  -- after `put`
  pub anew_used : (k : Vec ℕ Z) (s : ℕ) → k.items ≡ name → s ≡ next_slot held → holds name held ≡ false
      → d ≡ lru_cache (put_entries (λ x y. bytes_eq x.items y.items) c k s) c.cap → plain d.entries ≡ used name held
  anew_used k s key slot told new =
      let entries : plain d.entries ≡ plain (put_entries (λ x y. bytes_eq x.items y.items) c k s) = ap (λ x. plain x.entries) new in
      let absent : holds name (plain c.entries) ≡ false = subst (λ h. holds name h ≡ false) (sym view) told in
      let taken : s ≡ slot_for name (plain c.entries) = slot ∙ (sym (absent_next name held told) ∙ ap (slot_for name) (sym view)) in
      entries ∙ (used_anew name c k s is.0 key taken absent ∙ ap (used name) view)

  pub anew_kept : (k : Vec ℕ Z) (s : ℕ) → k.items ≡ name → s ≡ next_slot held → holds name held ≡ false
      → d ≡ lru_cache (put_entries (λ x y. bytes_eq x.items y.items) c k s) c.cap → IsSender d
  anew_kept k s key slot told new = kept name held d (ap (λ x. x.cap) new ∙ is.0) (subst CanBeHeld view is.1) (anew_used k s key slot told new)
