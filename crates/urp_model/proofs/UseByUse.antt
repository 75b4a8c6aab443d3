-- Each use keeps what a sender keeps in agreement with the list of all uses; so its answers are those of that list.
use Rattle.std.proofs.Common.{◌≡◌, ℕ, ◌<◌, ◌≤◌, nat_lt, true, false, List, [], ◌∷◌, ◌++◌, length, get_or}
use Rattle.std.proofs.Common.{take, set, Some, None, refl, sym, ◌∙◌, ap, subst, arith, bytes_eq}
use Rattle.std.specs.Map.{lookup, remove_entry}
use Rattle.std.proofs.lemmas.Bool.{le-ltb, lt-ltb, ltb-true, ltb-false}
use Rattle.std.proofs.lemmas.List.{length-take, take_all, take_more}
use Rattle.urp_model.specs.Held.{holds, next_slot, slot_for, used, held_after}
use Rattle.urp_model.specs.Slots.{stalest, is_among, with_use, holding, place, is_held, slot_taken}
use Rattle.std.proofs.lemmas.Slice.Eq.{bytes_eq-Decides}
use Rattle.urp_model.proofs.Entries.{found_first, all_found}
use Rattle.urp_model.proofs.NamesInSlots.{only_place}
use Rattle.urp_model.proofs.KeptUses.{Agrees, IsAt, held_again, held_new, held_over, oldest_goes, is_there, is_not_there, same_answer}

-- the slot of a name
pub slot_again : (name : List ℕ) (held : List (List ℕ × ℕ)) (s : ℕ) → lookup (bytes_eq name) held ≡ Some s → slot_for name held ≡ s
unfolding slot_for
slot_again name held s look = rw look refl

slot_new : (name : List ℕ) (held : List (List ℕ × ℕ)) → lookup (bytes_eq name) held ≡ None → length held < 256 → slot_for name held ≡ length held
unfolding slot_for next_slot
slot_new name held look room = rw (look, lt-ltb (length held) 256 room) refl

slot_over : (name : List ℕ) (held : List (List ℕ × ℕ)) → lookup (bytes_eq name) held ≡ None → 256 ≤ length held → slot_for name held ≡ (get_or held 255 ([], 0)).1
unfolding slot_for next_slot
slot_over name held look full = rw (look, le-ltb (length held) 256 full) refl

-- the names in the slots
with_again : (uses : List (List ℕ)) (name : List ℕ) (names : List (List ℕ)) → is_among name names ≡ true → with_use uses name names ≡ names
unfolding with_use
with_again uses name names among = rw among refl

with_new : (uses : List (List ℕ)) (name : List ℕ) (names : List (List ℕ)) → is_among name names ≡ false → length names < 256 → with_use uses name names ≡ names ++ name ∷ []
unfolding with_use
with_new uses name names among room = rw (among, lt-ltb (length names) 256 room) refl

with_over : (uses : List (List ℕ)) (name : List ℕ) (names : List (List ℕ)) → is_among name names ≡ false → 256 ≤ length names
    → with_use uses name names ≡ set names (stalest uses names) name
unfolding with_use
with_over uses name names among full = rw (among, le-ltb (length names) 256 full) refl

-- 256 entries are 255 and the last
last_apart : {E : Type 0} (d : E) (es : List E) → length es ≡ 256 → take 255 es ++ get_or es 255 d ∷ [] ≡ es
last_apart d es long = sym (take_more es 255 d (omega arith)) ∙ take_all 256 es (omega arith)

-- one use more
use_again : (uses names : List (List ℕ)) (held : List (List ℕ × ℕ)) (name : List ℕ) (s : ℕ) → Agrees uses names held
    → lookup (bytes_eq name) held ≡ Some s → Agrees (name ∷ uses) (with_use uses name names) (used name held)
unfolding used
use_again uses names held name s agrees look =
    rw (slot_again name held s look, with_again uses name names (is_there uses names held name agrees s look)) (held_again uses names held name s agrees look)

use_new : (uses names : List (List ℕ)) (held : List (List ℕ × ℕ)) (name : List ℕ) → Agrees uses names held → lookup (bytes_eq name) held ≡ None
    → length held < 256 → Agrees (name ∷ uses) (with_use uses name names) (used name held)
unfolding used
use_new uses names held name agrees look room =
    let count = agrees.count in
    rw (slot_new name held look room, with_new uses name names (is_not_there uses names held name agrees look) (omega arith)) (held_new uses names held name agrees look room)

use_over : (uses names : List (List ℕ)) (held front : List (List ℕ × ℕ)) (last : List ℕ × ℕ) (name : List ℕ) → front ++ last ∷ [] ≡ held
    → length front ≡ 255 → last ≡ get_or held 255 ([], 0) → Agrees uses names held → lookup (bytes_eq name) held ≡ None → 256 ≤ length held
    → Agrees (name ∷ uses) (with_use uses name names) (used name held)
unfolding used
use_over uses names held front last name apart long is agrees look full =
    let count = agrees.count in
    let before : Agrees uses names (front ++ last ∷ []) = subst (Agrees uses names) (sym apart) agrees in
    let none : lookup (bytes_eq name) (front ++ last ∷ []) ≡ None = subst (λ es. lookup (bytes_eq name) es ≡ None) (sym apart) look in
    let slot : slot_for name held ≡ last.1 = slot_over name held look full ∙ sym (ap (λ e. e.1) is) in
    let goes = oldest_goes uses names front last name before none in
    rw (slot, with_over uses name names (is_not_there uses names held name agrees look) (omega arith), goes)
    (subst (λ es. Agrees (name ∷ uses) (set names last.1 name) ((name, last.1) ∷ take 255 (remove_entry (bytes_eq name) es))) apart
    (held_over uses names front last name before none long))

use_full : (uses names : List (List ℕ)) (held : List (List ℕ × ℕ)) (name : List ℕ) → Agrees uses names held → lookup (bytes_eq name) held ≡ None
    → 256 ≤ length held → Agrees (name ∷ uses) (with_use uses name names) (used name held)
use_full uses names held name agrees look full =
    let few = agrees.few in
    let long = length-take 255 held in
    use_over uses names held (take 255 held) (get_or held 255 ([], 0)) name (last_apart ([], 0) held (omega arith)) (omega arith) refl agrees look full

pub one_use : (uses names : List (List ℕ)) (held : List (List ℕ × ℕ)) (name : List ℕ) → Agrees uses names held → Agrees (name ∷ uses) (with_use uses name names) (used name held)
one_use uses names held name agrees = (elim (lookup (bytes_eq name) held) as (λ o. lookup (bytes_eq name) held ≡ o → Agrees (name ∷ uses) (with_use uses name names) (used name held)) [
  | None ↦ λ look. (elim (nat_lt (length held) 256) as (λ y. nat_lt (length held) 256 ≡ y → Agrees (name ∷ uses) (with_use uses name names) (used name held)) [
    | true ↦ λ told. use_new uses names held name agrees look (ltb-true (length held) 256 told)
    | false ↦ λ told. use_full uses names held name agrees look (ltb-false (length held) 256 told)
  ]) refl
  | Some s ↦ λ look. use_again uses names held name s agrees look
]) refl

pub all_uses : (uses : List (List ℕ)) → Agrees uses (holding uses) (held_after uses)
unfolding holding held_after
all_uses [] = record { few = omega arith; count = refl; placed = tt; found = λ s inside. absurd (omega arith); older = tt }
all_uses (name ∷ uses) = one_use uses (holding uses) (held_after uses) name (all_uses uses)

-- the name used now stands in front with its slot
in_front : (name : List ℕ) (held : List (List ℕ × ℕ)) → lookup (bytes_eq name) (used name held) ≡ Some (slot_for name held)
unfolding used
in_front name held = found_first bytes_eq bytes_eq-Decides name (name, slot_for name held) (take 255 (remove_entry (bytes_eq name) held)) refl

-- so its slot is its place among the names in the slots
taken_at : (uses names : List (List ℕ)) (held : List (List ℕ × ℕ)) (name : List ℕ) (s : ℕ) → Agrees uses names held
    → lookup (bytes_eq name) held ≡ Some s → (place name names ≡ s) × (s < 256)
taken_at uses names held name s agrees look =
    let placed = all_found bytes_eq bytes_eq-Decides (IsAt names) name s held agrees.placed look in
    let within = placed.inside in
    let few = agrees.few in
    let count = agrees.count in (
      only_place name names s placed.inside placed.is
          (λ t inside at. let here : lookup (bytes_eq name) held ≡ Some t = subst (λ n. lookup (bytes_eq n) held ≡ Some t) at (agrees.found t inside) in
          cc),
      omega arith,
    )

slot_told : (uses : List (List ℕ)) (name : List ℕ) → (slot_taken uses name ≡ slot_for name (held_after uses)) × (slot_for name (held_after uses) < 256)
unfolding slot_taken held_after
slot_told uses name = taken_at (name ∷ uses) (holding (name ∷ uses)) (used name (held_after uses)) name (slot_for name (held_after uses)) (all_uses (name ∷ uses)) (in_front name (held_after uses))

pub same_slot : (uses : List (List ℕ)) (name : List ℕ) → slot_for name (held_after uses) ≡ slot_taken uses name
same_slot uses name = sym (slot_told uses name).0

pub slot_below : (uses : List (List ℕ)) (name : List ℕ) → slot_taken uses name < 256
slot_below uses name = let told = slot_told uses name in let same = told.0 in let below = told.1 in omega arith

pub same_held : (uses : List (List ℕ)) (name : List ℕ) → holds name (held_after uses) ≡ is_held uses name
unfolding is_held
same_held uses name = same_answer uses (holding uses) (held_after uses) name (all_uses uses)

-- what is kept of no use, and of one more
pub one_more_use : (uses : List (List ℕ)) (name : List ℕ) → used name (held_after uses) ≡ held_after (name ∷ uses)
unfolding held_after
one_more_use uses name = refl

pub none_used : held_after [] ≡ []
unfolding held_after
none_used = refl
