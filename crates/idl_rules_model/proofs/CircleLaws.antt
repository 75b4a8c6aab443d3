-- The second rule is kept by the entities meant where no place breaks it: a way back has a short one, and the search finds it.
use Rattle.std.proofs.Common.{◌≡◌, ℕ, zero, suc, ◌+◌, ◌-◌, ◌<◌, Bool, true, false, ◌||◌, List, [], ◌∷◌, length, map, get_or, None, Some, Option, ◌⊎◌, inl, inr, refl, sym, ap, subst, ◌∙◌, arith, if◌then◌else◌}
use Rattle.std.proofs.lemmas.Bool.{both_ways, cases_lt, or_cases, false_from_ne_true}
use Rattle.std.proofs.lemmas.List.{get_or_default, length-map}
use Rattle.std.proofs.lemmas.List.Edits.{length-remove, get_or-remove_below, get_or-remove_above}
use Rattle.std.specs.List.{Contains, list_any, remove}
use Rattle.std.proofs.lemmas.Slice.Eq.{bytes_eq-Decides}
use Rattle.std.specs.Str.{bytes_eq}
use Rattle.uno_model.specs.Circles.{Leads, step, on}
use Rattle.uno_model.specs.Entities.{Entity}
use Rattle.uno_model.specs.Registry.{find_entity}
use Rattle.registry_text_model.specs.NoCircles.{leads_on, leads_on_to}
use Rattle.idl_rules_model.specs.Circles.{comes_to, entity_comes_back}

-- ---- what passes for one of a list

any_at : {X : Type 0} (p : X → Bool) (xs : List X) (x : X) → Contains xs x → p x ≡ true → list_any p xs ≡ true
any_at p [] x (k, low, is) right = let bad : ⊥ = omega arith in absurd bad
any_at p (y ∷ ys) x (zero, low, is) right = rw (subst (λ z. p z ≡ true) (sym is) right) refl
any_at p (y ∷ ys) x (suc k, low, is) right = by_first (p y) (any_at p ys x (k, omega arith, is) right)
  where
    by_first : (b : Bool) → list_any p ys ≡ true → (b || list_any p ys) ≡ true
    by_first true rest = refl
    by_first false rest = rest

any_found : {X : Type 0} (p : X → Bool) (xs : List X) → list_any p xs ≡ true → (x : X) × Contains xs x × (p x ≡ true)
any_found p [] any = let bad : ⊥ = cc in absurd bad
any_found {X = X} p (y ∷ ys) any = by_first (p y) refl any (any_found p ys)
  where
    by_first : (b : Bool) → p y ≡ b → (b || list_any p ys) ≡ true → (list_any p ys ≡ true → (x : X) × Contains ys x × (p x ≡ true)) → (x : X) × Contains (y ∷ ys) x × (p x ≡ true)
    by_first true is any rest = (y, (0, omega arith, refl), is)
    by_first false is any rest = let found = rest any in (found.0, (suc found.1.0, omega (arith, found.1.1), found.1.2), found.2)

-- ---- a way leads where the search comes to

module _ {X : Type 0} (next : X → List X) where
  pub way_of_search : (wanted : X → Bool) (steps : ℕ) (a : X) → comes_to next wanted steps a ≡ true → (b : X) × Leads next a b × (wanted b ≡ true)
  unfolding comes_to
  way_of_search wanted zero a comes = let bad : ⊥ = cc in absurd bad
  way_of_search wanted (suc steps) a comes =
      let first = any_found (λ b. wanted b || comes_to next wanted steps b) (next a) comes in
      elim (or_cases (wanted first.0) (comes_to next wanted steps first.0) first.2) [
        | inl here ↦ (first.0, step a first.0 first.1, here)
        | inr later ↦ let rest = way_of_search wanted steps first.0 later in (rest.0, on a first.0 rest.0 first.1 rest.1, rest.2)
      ]

-- ---- and where a way leads, a short search comes to

-- the graph without what leads on from one node
abbrev without : {X : Type 0} → (X → X → Bool) → X → (X → List X) → X → List X
without same a next x = if same x a then [] else next x

module _ {X : Type 0} (same : X → X → Bool) (right : (x y : X) → (same x y ≡ true → x ≡ y) × (x ≡ y → same x y ≡ true)) where
  -- from a node the way goes on from the last place where it leaves it
  abbrev Leaves : (X → List X) → X → X → Type 0
  Leaves next a b = (c : X) × Contains (next a) c × ((c ≡ b) ⊎ Leads (without same a next) c b)

  avoids : (next : X → List X) (a x c : X) → same x a ≡ false → Contains (next x) c → Contains (without same a next x) c
  avoids next a x c other in' = rw other in'

  last_exit : (next : X → List X) (a x b : X) → Leads next x b → Leads (without same a next) x b ⊎ Leaves next a b
  last_exit next a x b (step x' b' in') = by_start (same x a) refl
    where
      by_start : (t : Bool) → same x a ≡ t → Leads (without same a next) x b ⊎ Leaves next a b
      by_start true is = inr (b, subst (λ y. Contains (next y) b) ((right x a).0 is) in', inl refl)
      by_start false is = inl (step x b (avoids next a x b is in'))
  last_exit next a x b (on x' c b' in' rest) = elim (last_exit next a c b rest) [
    | inr exit ↦ inr exit
    | inl avoiding ↦ by_start (same x a) refl avoiding
  ]
    where
      by_start : (t : Bool) → same x a ≡ t → Leads (without same a next) c b → Leads (without same a next) x b ⊎ Leaves next a b
      by_start true is avoiding = inr (c, subst (λ y. Contains (next y) c) ((right x a).0 is) in', inr avoiding)
      by_start false is avoiding = inl (on x c b (avoids next a x c is in') avoiding)

  -- no way leads on from the node that was taken out
  none_on : (next : X → List X) (a c : X) → Contains (without same a next a) c → ⊥
  none_on next a c in' = let row : Contains [] c = subst (λ (xs : List X). Contains xs c) (ap (λ t. if t then [] else next a) ((right a a).1 refl)) in' in omega (arith, row.1)

  no_way_on : (next : X → List X) (a b : X) → Leads (without same a next) a b → ⊥
  no_way_on next a b (step a' b' in') = none_on next a b in'
  no_way_on next a b (on a' c b' in' rest) = none_on next a c in'

  leaves : (next : X → List X) (a b : X) → Leads next a b → Leaves next a b
  leaves next a b way = elim (last_exit next a a b way) [ inl avoiding ↦ absurd (no_way_on next a b avoiding) | inr exit ↦ exit ]

  or_later : {q : Bool} (p : Bool) → q ≡ true → (p || q) ≡ true
  or_later true is = refl
  or_later false is = is

  -- a search without that node comes to nothing that one with it does not come to
  still_comes : (next : X → List X) (a : X) (wanted : X → Bool) (steps : ℕ) (x : X) → comes_to (without same a next) wanted steps x ≡ true → comes_to next wanted steps x ≡ true
  unfolding comes_to
  still_comes next a wanted zero x comes = comes
  still_comes next a wanted (suc steps) x comes =
      let found = any_found (λ b. wanted b || comes_to (without same a next) wanted steps b) (without same a next x) comes in
      any_at (λ b. wanted b || comes_to next wanted steps b) (next x) found.0 (in_next (same x a) found.1)
      (elim (or_cases (wanted found.0) (comes_to (without same a next) wanted steps found.0) found.2) [
        | inl here ↦ rw here refl
        | inr later ↦ or_later (wanted found.0) (still_comes next a wanted steps found.0 later)
      ])
    where
      in_next : {b : X} (t : Bool) → Contains (if t then [] else next x) b → Contains (next x) b
      in_next true in' = let bad : ⊥ = omega (arith, in'.1) in absurd bad
      in_next false in' = in'

  -- each node that leads anywhere is in the list
  abbrev HasLeading : (X → List X) → List X → Type 0
  HasLeading next left = (x c : X) → Contains (next x) c → Contains left x

  -- what a list contains, it still contains where another element is taken out
  kept_apart : (xs : List X) (a x : X) (k : ℕ) → k < length xs → get_or xs k a ≡ a → (a ≡ x → ⊥) → Contains xs x → Contains (remove xs k) x
  kept_apart xs a x k here is other (j, low, at) = elim (cases_lt j k) [
    | inl below ↦ (j, omega (arith, length-remove xs k here), get_or-remove_below xs k x j below here ∙ at)
    | inr above ↦
        let apart : j ≡ k → ⊥ = λ e. other (sym is ∙ get_or_default xs k a x here ∙ ap (λ i. get_or xs i x) (sym e) ∙ at) in
        let next_one : j - 1 + 1 ≡ j = omega arith in
        (j - 1, omega (arith, length-remove xs k here), get_or-remove_above xs k x (j - 1) (omega arith) here ∙ ap (λ i. get_or xs i x) next_one ∙ at)
  ]

  has_apart : (next : X → List X) (left : List X) (a : X) (k : ℕ) → k < length left → get_or left k a ≡ a → HasLeading next left → HasLeading (without same a next) (remove left k)
  has_apart next left a k here is has x c in' = by_start (same x a) refl in'
    where
      by_start : (t : Bool) → same x a ≡ t → Contains (if t then [] else next x) c → Contains (remove left k) x
      by_start true same_one in'' = let bad : ⊥ = omega (arith, in''.1) in absurd bad
      by_start false other in'' = kept_apart left a x k here is (λ e. both_ways (same x a) other ((right x a).1 (sym e))) (has x c in'')

  pub search_of_way : (n : ℕ) (next : X → List X) (left : List X) (a b : X) → length left ≡ n → HasLeading next left → Leads next a b → comes_to next (λ x. same x b) n a ≡ true
  unfolding comes_to
  search_of_way zero next left a b long has way =
      let exit = leaves next a b way in
      let in' = has a exit.0 exit.1 in
      let bad : ⊥ = omega (arith, in'.1) in
      absurd bad
  search_of_way (suc n) next left a b long has way =
      let exit = leaves next a b way in
      let in' = has a exit.0 exit.1 in
      let rest : List X = remove left in'.0 in
      any_at (λ x. same x b || comes_to next (λ y. same y b) n x) (next a) exit.0 exit.1
      (elim exit.2 [
        | inl here ↦ rw ((right exit.0 b).1 here) refl
        | inr later ↦ or_later (same exit.0 b) (still_comes next a (λ y. same y b) n exit.0
            (search_of_way n (without same a next) rest exit.0 b (omega (arith, length-remove left in'.0 in'.1)) (has_apart next left a in'.0 in'.1 in'.2 has) later))
      ])

-- ---- the rule

flipped : (x y : List ℕ) → (bytes_eq y x ≡ true → x ≡ y) × (x ≡ y → bytes_eq y x ≡ true)
flipped x y = (λ same. sym ((bytes_eq-Decides y x).0 same), λ one. (bytes_eq-Decides y x).1 (sym one))

-- what is found is one of the names
name_there : (name : List ℕ) (es : List Entity) (e : Entity) → find_entity name es ≡ Some e → Contains (map (λ (f : Entity). f.name) es) name
unfolding find_entity
name_there name [] e found = let bad : ⊥ = cc in absurd bad
name_there name (f ∷ fs) e found = by_test (bytes_eq name f.name) refl found (name_there name fs e)
  where
    by_test : (b : Bool) → bytes_eq name f.name ≡ b → (if b then Some f else find_entity name fs) ≡ Some e → (find_entity name fs ≡ Some e → Contains (map (λ (g : Entity). g.name) fs) name)
        → Contains (f.name ∷ map (λ (g : Entity). g.name) fs) name
    by_test true is found rest = (0, omega arith, sym ((bytes_eq-Decides name f.name).0 is))
    by_test false is found rest = let in' = rest found in (suc in'.0, omega (arith, in'.1), in'.2)

-- what leads anywhere is an entity
names_lead : (reg : List Entity) (x c : List ℕ) → Contains (leads_on_to reg x) c → Contains (map (λ (e : Entity). e.name) reg) x
unfolding leads_on_to
names_lead reg x c in' = by_find (find_entity x reg) refl in'
  where
    by_find : (o : Option Entity) → find_entity x reg ≡ o → Contains (leads_on reg o) c → Contains (map (λ (e : Entity). e.name) reg) x
    by_find None absent in'' = let bad : ⊥ = omega (arith, in''.1) in absurd bad
    by_find (Some e) found in'' = name_there x reg e found

-- a name that no search brings back is on no circle
pub on_no_circle : (reg : List Entity) (name : List ℕ) → entity_comes_back reg name ≡ false → ¬ Leads (leads_on_to reg) name name
unfolding entity_comes_back
on_no_circle reg name none way =
    both_ways (comes_to (leads_on_to reg) (bytes_eq name) (length reg) name) none
    (search_of_way (λ x y. bytes_eq y x) flipped (length reg) (leads_on_to reg) (map (λ (e : Entity). e.name) reg) name name (length-map reg (λ (e : Entity). e.name)) (names_lead reg) way)

-- and one that is on none is brought back by no search
pub never_back : (reg : List Entity) (name : List ℕ) → ¬ Leads (leads_on_to reg) name name → entity_comes_back reg name ≡ false
unfolding entity_comes_back
never_back reg name none =
    false_from_ne_true (comes_to (leads_on_to reg) (bytes_eq name) (length reg) name) (λ comes.
    let found = way_of_search (leads_on_to reg) (bytes_eq name) (length reg) name comes in
    none (subst (λ b. Leads (leads_on_to reg) name b) (sym ((bytes_eq-Decides name found.0).0 found.2)) found.1))
