-- What a sender keeps of its uses agrees with the list of all uses, use by use.
use Rattle.std.proofs.Common.{◌≡◌, ℕ, suc, ◌<◌, ◌≤◌, nat_lt, nat_eq, true, false, List, [], ◌∷◌, ◌++◌, length, get_or}
use Rattle.std.proofs.Common.{take, set, cond, Some, None, is_some, refl, sym, ◌∙◌, ap, subst, arith, bytes_eq}
use Rattle.std.specs.List.{AllByRecursion}
use Rattle.std.specs.Map.{lookup, remove_entry}
use Rattle.std.proofs.lemmas.Bool.{ltb-true, ltb-false, eqb-true, eqb-false}
use Rattle.std.proofs.lemmas.List.{length-set, take_all, take_at, get_or-set_same, get_or-set_other, get_or_append_left, get_or_push, length_push}
use Rattle.std.proofs.lemmas.Slice.Eq.{bytes_eq-Decides}
use Rattle.urp_model.specs.Held.{holds}
use Rattle.urp_model.specs.Slots.{age, stalest, is_among}
use Rattle.urp_model.proofs.Entries.{all_at_last, all_before, all_taken, all_weaker, all_left, one_less, none_less, all_found, found_left}
use Rattle.urp_model.proofs.Entries.{found_before, Grows, grows_taken, grows_left, others_left, last_is_above, grows_again}
use Rattle.urp_model.proofs.NamesInSlots.{among_at_place, not_among, stalest_place}

-- a name stands at a slot
pub record IsAt (names : List (List ℕ)) (name : List ℕ) (slot : ℕ) : Type 0 where
  pub inside : slot < length names
  pub is : get_or names slot [] ≡ name

-- each entry stands where its slot says
abbrev pub AreAt : List (List ℕ) → List (List ℕ × ℕ) → Type 0
AreAt names held = AllByRecursion (λ e. IsAt names e.0 e.1) held

-- each name in a slot is found with that slot
abbrev pub AreFound : List (List ℕ) → List (List ℕ × ℕ) → Type 0
AreFound names held = (s : ℕ) → s < length names → lookup (bytes_eq (get_or names s [])) held ≡ Some s

-- the entries are the names in the slots, from the youngest to the oldest
pub record Agrees (uses : List (List ℕ)) (names : List (List ℕ)) (held : List (List ℕ × ℕ)) : Type 0 where
  pub few : length held ≤ 256
  pub count : length held ≡ length names
  pub placed : AreAt names held
  pub found : AreFound names held
  pub older : Grows (age uses) held

-- the ages after one more use
now_youngest : (uses : List (List ℕ)) (name : List ℕ) → age (name ∷ uses) name ≡ 0
unfolding age
now_youngest uses name = rw ((bytes_eq-Decides name name).1 refl) refl

one_older : (uses : List (List ℕ)) (name q : List ℕ) → (name ≡ q → ⊥) → age (name ∷ uses) q ≡ suc (age uses q)
unfolding age
one_older uses name q other = (elim (bytes_eq q name) as (λ y. bytes_eq q name ≡ y → cond y 0 (suc (age uses q)) ≡ suc (age uses q)) [
  | true ↦ λ t. absurd (other (sym ((bytes_eq-Decides q name).0 t)))
  | false ↦ λ t. refl
]) refl

-- the order of the entries after one more use
pub still_older : (uses : List (List ℕ)) (name : List ℕ) (s : ℕ) (held : List (List ℕ × ℕ)) → Grows (age uses) held
    → Grows (age (name ∷ uses)) ((name, s) ∷ take 255 (remove_entry (bytes_eq name) held))
still_older uses name s held grows =
    let rest = remove_entry (bytes_eq name) held in
    let others = all_taken (λ e. name ≡ e.0 → ⊥) 255 rest (others_left bytes_eq bytes_eq-Decides (age uses) name held grows) in
    let ordered = grows_taken (age uses) 255 rest (grows_left (age uses) (bytes_eq name) held grows) in
    grows_again (age uses) (age (name ∷ uses)) name s (take 255 rest) (now_youngest uses name) (one_older uses name) others ordered

-- a name that is found in front, or behind
front_or_rest : (n name : List ℕ) (s t : ℕ) (rest : List (List ℕ × ℕ)) → (n ≡ name → t ≡ s) → ((n ≡ name → ⊥) → lookup (bytes_eq n) rest ≡ Some t)
    → lookup (bytes_eq n) ((name, s) ∷ rest) ≡ Some t
front_or_rest n name s t rest front behind = (elim (bytes_eq n name) as (λ y. bytes_eq n name ≡ y → cond y (Some s) (lookup (bytes_eq n) rest) ≡ Some t) [
  | true ↦ λ told. let here = front ((bytes_eq-Decides n name).0 told) in cc
  | false ↦ λ told. behind (λ is. let bad : false ≡ true = sym told ∙ (bytes_eq-Decides n name).1 is in absurd cc)
]) refl

-- a name that is held, used again
module _ (uses names : List (List ℕ)) (held : List (List ℕ × ℕ)) (name : List ℕ) (s : ℕ) (agrees : Agrees uses names held) (look : lookup (bytes_eq name) held ≡ Some s) where
  all_kept : take 255 (remove_entry (bytes_eq name) held) ≡ remove_entry (bytes_eq name) held
  all_kept = let less = one_less (bytes_eq name) held s look in let few = agrees.few in take_all 255 (remove_entry (bytes_eq name) held) (omega arith)

  again_found : AreFound names ((name, s) ∷ take 255 (remove_entry (bytes_eq name) held))
  again_found t inside =
      let n = get_or names t [] in
      let was : lookup (bytes_eq n) held ≡ Some t = agrees.found t inside in
      rw all_kept (front_or_rest n name s t (remove_entry (bytes_eq name) held) (λ is. let same : lookup (bytes_eq n) held ≡ Some s = rw is look in
      cc) (λ other. found_left bytes_eq bytes_eq-Decides n name held other ∙ was))

  pub held_again : Agrees (name ∷ uses) names ((name, s) ∷ take 255 (remove_entry (bytes_eq name) held))
  held_again =
      let less = one_less (bytes_eq name) held s look in
      let few = agrees.few in
      let count = agrees.count in
      let kept = ap length all_kept in
      let placed = all_found bytes_eq bytes_eq-Decides (IsAt names) name s held agrees.placed look in
      record {
        few = omega arith;
        count = omega arith;
        placed = (placed, all_taken (λ e. IsAt names e.0 e.1) 255 (remove_entry (bytes_eq name) held) (all_left (bytes_eq name) (λ e. IsAt names e.0 e.1) held agrees.placed));
        found = again_found;
        older = still_older uses name s held agrees.older;
      }

-- a name that is not held, where a slot was never used
module _ (uses names : List (List ℕ)) (held : List (List ℕ × ℕ)) (name : List ℕ) (agrees : Agrees uses names held) (look : lookup (bytes_eq name) held ≡ None) (room : length held < 256) where
  nothing_goes : take 255 (remove_entry (bytes_eq name) held) ≡ held
  nothing_goes = rw (none_less (bytes_eq name) held look) (take_all 255 held (omega arith))

  new_found : AreFound (names ++ name ∷ []) ((name, length held) ∷ held)
  new_found t inside = (elim (nat_lt t (length names)) as (λ y. nat_lt t (length names) ≡ y → lookup (bytes_eq (get_or (names ++ name ∷ []) t [])) ((name, length held) ∷ held) ≡ Some t) [
    | true ↦ λ told.
        let within : t < length names = ltb-true t (length names) told in
        let n = get_or names t [] in
        let was : lookup (bytes_eq n) held ≡ Some t = agrees.found t within in
        subst (λ n. lookup (bytes_eq n) ((name, length held) ∷ held) ≡ Some t) (sym (get_or_append_left names (name ∷ []) [] t within))
        (front_or_rest n name (length held) t held (λ is. let none : lookup (bytes_eq n) held ≡ None = rw is look in absurd cc) (λ other. was))
    | false ↦ λ told.
        let past = ltb-false t (length names) told in
        let most = length_push names name in
        let count = agrees.count in
        let last : length names ≡ t = omega arith in
        let at : t ≡ length held = omega arith in
        subst (λ n. lookup (bytes_eq n) ((name, length held) ∷ held) ≡ Some t) (sym (get_or_push names name [] t last))
        (front_or_rest name name (length held) t held (λ is. at) (λ other. absurd (other refl)))
  ]) refl

  moved : (es : List (List ℕ × ℕ)) → AreAt names es → AreAt (names ++ name ∷ []) es
  moved es all = all_weaker (λ e. IsAt names e.0 e.1) (λ e. IsAt (names ++ name ∷ []) e.0 e.1)
      (λ e at. let within = at.inside in let most = length_push names name in
      record { inside = omega arith; is = get_or_append_left names (name ∷ []) [] e.1 at.inside ∙ at.is }) es all

  pub held_new : Agrees (name ∷ uses) (names ++ name ∷ []) ((name, length held) ∷ take 255 (remove_entry (bytes_eq name) held))
  held_new =
      let count = agrees.count in
      let most = length_push names name in
      let kept = ap length nothing_goes in
      record {
        few = omega arith;
        count = omega arith;
        placed = rw nothing_goes (record { inside = omega arith; is = get_or_push names name [] (length held) (sym count) }, moved held agrees.placed);
        found = rw nothing_goes new_found;
        older = still_older uses name (length held) held agrees.older;
      }

-- a name that is not held, where every slot was used: it takes that of the last
module _ (uses names : List (List ℕ)) (front : List (List ℕ × ℕ)) (last : List ℕ × ℕ) (name : List ℕ)
    (agrees : Agrees uses names (front ++ last ∷ [])) (look : lookup (bytes_eq name) (front ++ last ∷ []) ≡ None) where
  last_placed : IsAt names last.0 last.1
  last_placed = all_at_last (λ e. IsAt names e.0 e.1) last front agrees.placed

  last_found : lookup (bytes_eq last.0) (front ++ last ∷ []) ≡ Some last.1
  last_found = subst (λ n. lookup (bytes_eq n) (front ++ last ∷ []) ≡ Some last.1) last_placed.is (agrees.found last.1 last_placed.inside)

  -- what stands at another slot is found before the last
  others_found : (t : ℕ) → t < length names → (t ≡ last.1 → ⊥) → lookup (bytes_eq (get_or names t [])) front ≡ Some t
  others_found t inside other =
      let n = get_or names t [] in
      let was : lookup (bytes_eq n) (front ++ last ∷ []) ≡ Some t = agrees.found t inside in
      found_before bytes_eq bytes_eq-Decides n t last front (λ is. let here : lookup (bytes_eq n) (front ++ last ∷ []) ≡ Some last.1 = rw is last_found in let same : t ≡ last.1 = cc in other same) was

  pub oldest_goes : stalest uses names ≡ last.1
  oldest_goes = stalest_place uses names last.1 last_placed.inside (λ t inside other.
      let below : age uses (get_or names t []) < age uses last.0 = all_found bytes_eq bytes_eq-Decides (λ n slot. age uses n < age uses last.0)
      (get_or names t []) t front (last_is_above (age uses) last front agrees.older) (others_found t inside other) in
      let at : age uses (get_or names last.1 []) ≡ age uses last.0 = ap (age uses) last_placed.is in
      omega arith)

  over_found : AreFound (set names last.1 name) ((name, last.1) ∷ front)
  over_found t inside = (elim (nat_eq t last.1) as (λ y. nat_eq t last.1 ≡ y → lookup (bytes_eq (get_or (set names last.1 name) t [])) ((name, last.1) ∷ front) ≡ Some t) [
    | true ↦ λ told.
        let at : t ≡ last.1 = eqb-true t last.1 told in
        let here : get_or (set names last.1 name) t [] ≡ name = rw at (get_or-set_same names last.1 name [] last_placed.inside) in
        subst (λ n. lookup (bytes_eq n) ((name, last.1) ∷ front) ≡ Some t) (sym here) (front_or_rest name name last.1 t front (λ is. at) (λ other. absurd (other refl)))
    | false ↦ λ told.
        let other : t ≡ last.1 → ⊥ = eqb-false t last.1 told in
        let n = get_or names t [] in
        let size = length-set names last.1 name in
        let within : t < length names = omega arith in
        let was : lookup (bytes_eq n) (front ++ last ∷ []) ≡ Some t = agrees.found t within in
        subst (λ n. lookup (bytes_eq n) ((name, last.1) ∷ front) ≡ Some t) (sym (get_or-set_other names last.1 t name [] other))
        (front_or_rest n name last.1 t front (λ is. let none : lookup (bytes_eq n) (front ++ last ∷ []) ≡ None = rw is look in absurd cc)
        (λ _. others_found t within other))
  ]) refl

  still_placed : (es : List (List ℕ × ℕ)) → AreAt names es → AllByRecursion (λ e. age uses e.0 < age uses last.0) es → AreAt (set names last.1 name) es
  still_placed [] all below = tt
  still_placed (e ∷ es) all below =
      let size = length-set names last.1 name in
      let inside = all.0.inside in
      let other : e.1 ≡ last.1 → ⊥ = λ is.
      let here : e.0 ≡ last.0 = sym all.0.is ∙ (ap (λ s. get_or names s []) is ∙ last_placed.is) in
      let same : age uses e.0 ≡ age uses last.0 = ap (age uses) here in
      let first = below.0 in
      omega arith in
      (record { inside = omega arith; is = get_or-set_other names last.1 e.1 name [] other ∙ all.0.is }, still_placed es all.1 below.1)

  pub held_over : length front ≡ 255 → Agrees (name ∷ uses) (set names last.1 name) ((name, last.1) ∷ take 255 (remove_entry (bytes_eq name) (front ++ last ∷ [])))
  held_over long =
      let count = agrees.count in
      let size = length-set names last.1 name in
      let more = length_push front last in
      let within = last_placed.inside in
      let left : take 255 (remove_entry (bytes_eq name) (front ++ last ∷ [])) ≡ front = rw (none_less (bytes_eq name) (front ++ last ∷ []) look) (take_at front (last ∷ []) 255 long) in
      let kept = ap length left in
      let before = all_before (λ e. IsAt names e.0 e.1) last front agrees.placed in
      record {
        few = omega arith;
        count = omega arith;
        placed = rw left (record { inside = omega arith; is = get_or-set_same names last.1 name [] within }, still_placed front before (last_is_above (age uses) last front agrees.older));
        found = rw left over_found;
        older = still_older uses name last.1 (front ++ last ∷ []) agrees.older;
      }

-- whether a name is held, by the entries and by the names in the slots
module _ (uses names : List (List ℕ)) (held : List (List ℕ × ℕ)) (name : List ℕ) (agrees : Agrees uses names held) where
  pub is_there : (s : ℕ) → lookup (bytes_eq name) held ≡ Some s → is_among name names ≡ true
  is_there s look =
      let placed = all_found bytes_eq bytes_eq-Decides (IsAt names) name s held agrees.placed look in
      among_at_place name names s placed.inside placed.is

  pub is_not_there : lookup (bytes_eq name) held ≡ None → is_among name names ≡ false
  is_not_there look = not_among name names (λ s inside at. let here : lookup (bytes_eq name) held ≡ Some s = subst (λ n. lookup (bytes_eq n) held ≡ Some s) at (agrees.found s inside) in absurd cc)

  pub same_answer : holds name held ≡ is_among name names
  unfolding holds
  same_answer = (elim (lookup (bytes_eq name) held) as (λ o. lookup (bytes_eq name) held ≡ o → is_some o ≡ is_among name names) [
    | None ↦ λ look. sym (is_not_there look)
    | Some s ↦ λ look. sym (is_there s look)
  ]) refl
