-- What the entries of the library's cache say, as names with their slots.
use Rattle.std.proofs.Common.{◌≡◌, ℕ, ◌-◌, ◌<◌, ◌≤◌, Bool, true, false, List, [], ◌∷◌, length, take, cond, Option, Some, None}
use Rattle.std.proofs.Common.{Vec, bytes_eq, is_some, MatchOption, slice_get, refl, sym, ◌∙◌, ap, subst, arith}
use Rattle.std.specs.Option.{option_map, option_map_or}
use Rattle.std.specs.Map.{lookup, lookup_entry, remove_entry}
use Rattle.std.proofs.lemmas.Bool.{le-ltb, lt-ltb}
use Rattle.std.proofs.lemmas.List.{length-map, take-map, take_all}
use Rattle.std.proofs.lemmas.Option.{slice_get-map, get_or_from_slice_get}
use Rattle.std.proofs.lemmas.Slice.Eq.{bytes_eq-Decides}
use Rattle.lru.specs.LruCache.{LruCache, promoted, put_entries}
use Rattle.urp_model.specs.Held.{CanBeHeld, holds, next_slot, slot_for, used}
use Rattle.urp_model.proofs.Entries.{one_less, none_less}
use Rattle.urp_cache.specs.SendCache.{plain}

module _ {Z : Type 0} (name : List ℕ) where
  -- a name among the keys
  abbrev pub is_key : Vec ℕ Z → Bool
  is_key k = bytes_eq name k.items

  pub lookup-plain : (es : List (Vec ℕ Z × ℕ)) → lookup (bytes_eq name) (plain es) ≡ lookup is_key es
  unfolding plain
  lookup-plain [] = refl
  lookup-plain (e ∷ es) = let rest = lookup-plain es in cc

  pub remove_entry-plain : (es : List (Vec ℕ Z × ℕ)) → remove_entry (bytes_eq name) (plain es) ≡ plain (remove_entry is_key es)
  unfolding plain
  remove_entry-plain [] = refl
  remove_entry-plain (e ∷ es) = let rest = remove_entry-plain es in (elim (bytes_eq name e.0.items) as (λ y. cond y (plain es) ((e.0.items, e.1) ∷ remove_entry (bytes_eq name) (plain es)) ≡ plain (cond y es (e ∷ remove_entry is_key es))) [ true ↦ refl | false ↦ ap (λ l. (e.0.items, e.1) ∷ l) rest ])

  -- the entry of a name that is there
  pub entry_there : (es : List (Vec ℕ Z × ℕ)) (s : ℕ) → lookup (bytes_eq name) (plain es) ≡ Some s
      → (e : Vec ℕ Z × ℕ) × (lookup_entry is_key es ≡ Some e) × (e.0.items ≡ name) × (e.1 ≡ s)
  unfolding plain
  entry_there [] s look = absurd cc
  entry_there (e ∷ es) s look = (elim (bytes_eq name e.0.items) as (λ y. bytes_eq name e.0.items ≡ y → cond y (Some e.1) (lookup (bytes_eq name) (plain es)) ≡ Some s → (f : Vec ℕ Z × ℕ) × (cond y (Some e) (lookup_entry is_key es) ≡ Some f) × (f.0.items ≡ name) × (f.1 ≡ s)) [
    | true ↦ λ told here. let slot : e.1 ≡ s = cc in (e, refl, sym ((bytes_eq-Decides name e.0.items).0 told), slot)
    | false ↦ λ told later. entry_there es s later
  ]) refl look

  pub entry_absent : (es : List (Vec ℕ Z × ℕ)) → lookup (bytes_eq name) (plain es) ≡ None → lookup_entry is_key es ≡ None
  unfolding plain
  entry_absent [] look = refl
  entry_absent (e ∷ es) look = (elim (bytes_eq name e.0.items) as (λ y. cond y (Some e.1) (lookup (bytes_eq name) (plain es)) ≡ None → cond y (Some e) (lookup_entry is_key es) ≡ None) [
    | true ↦ λ here. cc
    | false ↦ λ later. entry_absent es later
  ]) look

-- whether a name is held, and its slot
pub told_absent : {Z : Type 0} (name : List ℕ) (es : List (Vec ℕ Z × ℕ)) → lookup (is_key name) es ≡ None → holds name (plain es) ≡ false
unfolding holds
told_absent name es look = rw (lookup-plain name es, look) refl

pub told_there : {Z : Type 0} (name : List ℕ) (es : List (Vec ℕ Z × ℕ)) (s : ℕ) → lookup (is_key name) es ≡ Some s → (holds name (plain es) ≡ true) × (s ≡ slot_for name (plain es))
unfolding holds slot_for
told_there name es s look = (rw (lookup-plain name es, look) refl, rw (lookup-plain name es, look) refl)

absent : (name : List ℕ) (held : List (List ℕ × ℕ)) → holds name held ≡ false → lookup (bytes_eq name) held ≡ None
unfolding holds
absent name held told = (elim (lookup (bytes_eq name) held) as (λ o. is_some o ≡ false → o ≡ None) [ None ↦ λ h. refl | Some s ↦ λ h. cc ]) told

there : (name : List ℕ) (held : List (List ℕ × ℕ)) → holds name held ≡ true → (s : ℕ) × (lookup (bytes_eq name) held ≡ Some s)
unfolding holds
there name held told = (elim (lookup (bytes_eq name) held) as (λ o. is_some o ≡ true → (s : ℕ) × (o ≡ Some s)) [ None ↦ λ h. absurd cc | Some s ↦ λ h. (s, refl) ]) told

-- the entries after a use of a name that is there
again_at : {Z : Type 0} (name : List ℕ) (es : List (Vec ℕ Z × ℕ)) (s : ℕ) (e : Vec ℕ Z × ℕ) → CanBeHeld (plain es)
    → lookup (bytes_eq name) (plain es) ≡ Some s → lookup_entry (is_key name) es ≡ Some e → e.0.items ≡ name → e.1 ≡ s
    → plain (promoted (is_key name) es) ≡ used name (plain es)
unfolding used slot_for plain
again_at name es s e can look entry key slot =
    let less = one_less (bytes_eq name) (plain es) s look in
    let few = can.few in
    let all : take 255 (remove_entry (bytes_eq name) (plain es)) ≡ remove_entry (bytes_eq name) (plain es) = take_all 255 (remove_entry (bytes_eq name) (plain es)) (omega arith) in
    rw (all, look, entry, remove_entry-plain name es, key, slot) refl

pub used_again : {Z : Type 0} (name : List ℕ) (es : List (Vec ℕ Z × ℕ)) → CanBeHeld (plain es) → holds name (plain es) ≡ true
    → plain (promoted (is_key name) es) ≡ used name (plain es)
used_again name es can told =
    let at = there name (plain es) told in
    let e = entry_there name es at.0 at.1 in
    again_at name es at.0 e.0 can at.1 e.1 e.2 e.3

-- and after that of one that is not
taken_in : {Z : Type 0} (es : List (Vec ℕ Z × ℕ)) (n : ℕ) (k : Vec ℕ Z) (s : ℕ) (o : Option (Vec ℕ Z × ℕ)) → o ≡ None
    → plain (option_map_or (λ e. (e.0, s) ∷ remove_entry (is_key k.items) es) o ((k, s) ∷ take n es)) ≡ (k.items, s) ∷ plain (take n es)
unfolding plain
taken_in es n k s o none = rw none refl

used_key : {Z : Type 0} (c : LruCache (Vec ℕ Z) ℕ) (k : Vec ℕ Z) (s : ℕ) → c.cap ≡ 256 → s ≡ slot_for k.items (plain c.entries)
    → holds k.items (plain c.entries) ≡ false → plain (put_entries (λ x y. bytes_eq x.items y.items) c k s) ≡ used k.items (plain c.entries)
unfolding used plain
used_key {Z = Z} c k s size slot told =
    let none = absent k.items (plain c.entries) told in
    let entry = entry_absent k.items c.entries none in
    let all = none_less (bytes_eq k.items) (plain c.entries) none in
    let front : plain (take 255 c.entries) ≡ take 255 (plain c.entries) = sym (take-map {X = Vec ℕ Z × ℕ} {Y = List ℕ × ℕ} (λ e. (e.0.items, e.1)) 255 c.entries) in
    let put = taken_in c.entries (c.cap - 1) k s (lookup_entry (is_key k.items) c.entries) entry in
    let less : c.cap - 1 ≡ 255 = omega arith in
    rw (all, ← slot, ← front, ← less) put

pub used_anew : {Z : Type 0} (name : List ℕ) (c : LruCache (Vec ℕ Z) ℕ) (k : Vec ℕ Z) (s : ℕ) → c.cap ≡ 256 → k.items ≡ name
    → s ≡ slot_for name (plain c.entries) → holds name (plain c.entries) ≡ false
    → plain (put_entries (λ x y. bytes_eq x.items y.items) c k s) ≡ used name (plain c.entries)
used_anew name c k s size key slot told =
    subst (λ n. plain (put_entries (λ x y. bytes_eq x.items y.items) c k s) ≡ used n (plain c.entries)) key
    (used_key c k s size (subst (λ n. s ≡ slot_for n (plain c.entries)) (sym key) slot) (subst (λ n. holds n (plain c.entries) ≡ false) (sym key) told))

-- the slot of a name that is not held
pub absent_next : (name : List ℕ) (held : List (List ℕ × ℕ)) → holds name held ≡ false → slot_for name held ≡ next_slot held
unfolding slot_for
absent_next name held told = rw (absent name held told) refl

pub next_unused : {Z : Type 0} (es : List (Vec ℕ Z × ℕ)) → length es < 256 → next_slot (plain es) ≡ length es
unfolding next_slot plain
next_unused {Z = Z} es room = let size : length (plain es) ≡ length es = length-map {A = Vec ℕ Z × ℕ} {B = List ℕ × ℕ} es (λ e. (e.0.items, e.1)) in rw (size, lt-ltb (length es) 256 room) refl

-- where all slots are in use, that of the last entry
last_slot : (held : List (List ℕ × ℕ)) (e : List ℕ × ℕ) → length held ≡ 256 → slice_get held 255 ≡ Some e → next_slot held ≡ e.1
unfolding next_slot
last_slot held e full last = rw (le-ltb (length held) 256 (omega arith), get_or_from_slice_get held 255 e ([], 0) last) refl

pub next_of_last : {Z : Type 0} (es : List (Vec ℕ Z × ℕ)) (e : Vec ℕ Z × ℕ) → CanBeHeld (plain es) → 256 ≤ length es
    → slice_get es (length es - 1) ≡ Some e → next_slot (plain es) ≡ e.1
unfolding plain
next_of_last {Z = Z} es e can full last =
    let size : length (plain es) ≡ length es = length-map {A = Vec ℕ Z × ℕ} {B = List ℕ × ℕ} es (λ e. (e.0.items, e.1)) in
    let few = can.few in
    let at : length es - 1 ≡ 255 = omega arith in
    let here : slice_get es 255 ≡ Some e = subst (λ i. slice_get es i ≡ Some e) at last in
    last_slot (plain es) (e.0.items, e.1) (omega arith) (slice_get-map {A = Vec ℕ Z × ℕ} {B = List ℕ × ℕ} (λ e. (e.0.items, e.1)) es 255 ∙ ap (option_map (λ e. (e.0.items, e.1))) here)

-- what a look-up tells
told_at : {Z : Type 0} (name : List ℕ) (es : List (Vec ℕ Z × ℕ)) (o : Option ℕ) → lookup (is_key name) es ≡ o
    → MatchOption o (holds name (plain es) ≡ false) (λ slot. (holds name (plain es) ≡ true) × (slot ≡ slot_for name (plain es)))
told_at name es None look = told_absent name es look
told_at name es (Some s) look = told_there name es s look

pub slot_told : {Z : Type 0} (name : List ℕ) (held : List (List ℕ × ℕ)) (es : List (Vec ℕ Z × ℕ)) (o : Option ℕ) → plain es ≡ held
    → o ≡ lookup (is_key name) es → MatchOption o (holds name held ≡ false) (λ slot. (holds name held ≡ true) × (slot ≡ slot_for name held))
slot_told name held es o view look = subst (λ h. MatchOption o (holds name h ≡ false) (λ slot. (holds name h ≡ true) × (slot ≡ slot_for name h))) view (told_at name es o (sym look))
