-- In a registry that keeps the rules, names tell the functions that an interface declares, and the parameters of each of them.
use Rattle.std.proofs.Common.{◌≡◌, refl, sym, ap, ◌∙◌, subst, ℕ, Bool, true, false, not, List, [], ◌∷◌, map, Option, None, Some, if◌then◌else◌, ◌⊎◌, inl, inr, arith}
use Rattle.std.specs.Prelude.{Contains}
use Rattle.std.specs.List.{flat_map, list_all, list_any}
use Rattle.std.specs.Str.{bytes_eq}
use Rattle.std.proofs.lemmas.Bool.{and_parts}
use Rattle.std.proofs.lemmas.List.Elements.{Contains-append_left, Contains-append_right}
use Rattle.plan_typing.specs.Effects.{NamesDiffer}
use Rattle.registry_text_model.specs.NamesDiffer.{names_differ, own_names_differ, all_names_differ, declared_name, params_differ}
use Rattle.registry_text_model.specs.Rules as rule
use Rattle.registry_text_model.specs.Rules.{KeepsTheRules}
use Rattle.registry_text_model.proofs.SoundLaws.{rules_make_sound}
use Rattle.uno_model.specs.Entities.{Entity, Body, Member, attribute, method, interface}
use Rattle.uno_model.specs.Functions.{Function, getter, setter, accessors_of, calls_of, declared_in, declared_by, interfaces_of, functions_of}
use Rattle.uno_model.specs.Registry.{find_entity}
use Rattle.uno_model.specs.Sound.{all_differ}
use Rattle.uno_model.proofs.AllLaws.{all_append, all_flat}
use Rattle.uno_model.proofs.CircleLaws.{all_at, all_from}
use Rattle.uno_model.proofs.FindLaws.{same_equal}
use Rattle.uno_model.proofs.PlaceLaws.{contains_cases}
use Rattle.uno_model.proofs.UsedKindLaws.{found_entity}
use Rattle.uno_model.proofs.VisitLaws.{bases_are_interfaces}

-- ---- lists whose names differ

module _ {X : Type 0} (name : X → List ℕ) where
  -- the name of an element is among the names
  is_among : (xs : List X) (x : X) → Contains xs x → list_any (bytes_eq (name x)) (map name xs) ≡ true
  is_among [] x has = absurd (omega (arith, has.1))
  is_among (y ∷ ys) x has = by_place (contains_cases y ys x has) (is_among ys x)
    where
      by_place : (y ≡ x) ⊎ Contains ys x → (Contains ys x → list_any (bytes_eq (name x)) (map name ys) ≡ true) → list_any (bytes_eq (name x)) (map name (y ∷ ys)) ≡ true
      by_place (inl here) later = let same : bytes_eq (name x) (name y) ≡ true = subst (λ z. bytes_eq (name x) (name z) ≡ true) (sym here) (same_equal (name x)) in rw same refl
      by_place (inr behind) later = let rest = later behind in grind (arith, rest)

  -- the first has another name than those behind it
  none_behind : (x : X) (xs : List X) (y : X) → not (list_any (bytes_eq (name x)) (map name xs)) ≡ true → Contains xs y → name x ≡ name y → ⊥
  none_behind x xs y new has same =
      let there : list_any (bytes_eq (name x)) (map name xs) ≡ true = subst (λ n. list_any (bytes_eq n) (map name xs) ≡ true) (sym same) (is_among xs y has) in
      let bad : false ≡ true = ap not (sym there) ∙ new in
      cc

  -- elements of one name are one
  told_by_name : (xs : List X) (x y : X) → all_differ (map name xs) ≡ true → Contains xs x → Contains xs y → name x ≡ name y → x ≡ y
  unfolding all_differ
  told_by_name [] x y differ has also same = absurd (omega (arith, has.1))
  told_by_name (z ∷ zs) x y differ has also same =
      let parts = and_parts (not (list_any (bytes_eq (name z)) (map name zs))) (all_differ (map name zs)) differ in
      by_places (contains_cases z zs x has) (contains_cases z zs y also) parts.0 (λ a b. told_by_name zs x y parts.1 a b same)
    where
      by_places : (z ≡ x) ⊎ Contains zs x → (z ≡ y) ⊎ Contains zs y → not (list_any (bytes_eq (name z)) (map name zs)) ≡ true → (Contains zs x → Contains zs y → x ≡ y) → x ≡ y
      by_places (inl first) (inl second) new later = sym first ∙ second
      by_places (inl first) (inr second) new later = absurd (none_behind z zs y new second (ap name first ∙ same))
      by_places (inr first) (inl second) new later = absurd (none_behind z zs x new first (ap name second ∙ sym same))
      by_places (inr first) (inr second) new later = later first second

-- what one of a list gives is among what all of them give
in_all : {X Y : Type 0} (f : X → List Y) (xs : List X) (x : X) (y : Y) → Contains xs x → Contains (f x) y → Contains (flat_map f xs) y
in_all f [] x y has at = absurd (omega (arith, has.1))
in_all f (z ∷ zs) x y has at = elim (contains_cases z zs x has) [
  | inl here ↦ Contains-append_left (f z) (flat_map f zs) y (subst (λ w. Contains (f w) y) (sym here) at)
  | inr behind ↦ Contains-append_right (f z) (flat_map f zs) y (in_all f zs x y behind at)
]

-- ---- parameters

-- the parameters of a function have different names
abbrev takes_differ : Function → Bool
takes_differ f = all_differ (map (λ p. p.name) f.params)

-- a function of an attribute has at most one parameter
accessors_differ : (owner : List ℕ) (m : Member) → list_all takes_differ (accessors_of owner m) ≡ true
unfolding all_differ
accessors_differ owner (method m) = refl
accessors_differ owner (attribute a) = by_test a.read_only
  where
    by_test : (b : Bool) → list_all takes_differ (if b then getter owner a ∷ [] else getter owner a ∷ (setter owner a ∷ [])) ≡ true
    by_test true = refl
    by_test false = refl

-- a method's are its own
calls_differ : (owner : List ℕ) (m : Member) → params_differ m ≡ true → list_all takes_differ (calls_of owner m) ≡ true
calls_differ owner (attribute a) differ = refl
calls_differ owner (method m) differ = rw differ refl

-- so it is of each function that a body declares
declared_differ : (owner : List ℕ) (body : Body) → own_names_differ body ≡ true → list_all takes_differ (declared_in owner body) ≡ true
declared_differ owner (interface bases members) differ =
    let each = (and_parts (all_differ (map declared_name members)) (list_all params_differ members) differ).1 in
    all_append takes_differ (flat_map (accessors_of owner) members) (flat_map (calls_of owner) members)
    (all_flat takes_differ (accessors_of owner) members (all_from (λ m. list_all takes_differ (accessors_of owner m)) members (λ m has. accessors_differ owner m)))
    (all_flat takes_differ (calls_of owner) members
    (all_from (λ m. list_all takes_differ (calls_of owner m)) members (λ m has. calls_differ owner m (all_at params_differ members m each has))))
declared_differ owner _ differ = refl

-- ---- functions

-- only an interface declares functions, and those that it has have different names
declared_differs : (reg : List Entity) (owner : List ℕ) (body : Body) (f : Function) → all_names_differ reg owner body ≡ true → Contains (declared_in owner body) f
    → all_differ (map (λ g. g.name) (functions_of reg owner)) ≡ true
declared_differs reg owner (interface bases members) f differ has = differ
declared_differs reg owner _ f differ has = absurd (omega (arith, has.1))

module _ (reg : List Entity) (keeps : KeepsTheRules reg) where
  -- an entity that is found keeps the rule on names
  found_keeps : (owner : List ℕ) (e : Entity) → find_entity owner reg ≡ Some e → (own_names_differ e.body ≡ true) × (all_names_differ reg owner e.body ≡ true)
  unfolding names_differ
  found_keeps owner e found =
      let kept = found_entity (names_differ reg) owner reg e (all_from (names_differ reg) reg (keeps.each rule.names)) found in
      let parts = and_parts (own_names_differ e.body) (all_names_differ reg e.name e.body) kept.0 in
      (parts.0, subst (λ n. all_names_differ reg n e.body ≡ true) kept.1 parts.1)

  -- an interface that declares a function has functions of different names
  owner_differs : (owner : List ℕ) (f : Function) → Contains (declared_by owner (find_entity owner reg)) f → all_differ (map (λ g. g.name) (functions_of reg owner)) ≡ true
  owner_differs owner f has = by_entity (find_entity owner reg) refl has
    where
      by_entity : (o : Option Entity) → find_entity owner reg ≡ o → Contains (declared_by owner o) f → all_differ (map (λ g. g.name) (functions_of reg owner)) ≡ true
      by_entity None found none = absurd (omega (arith, none.1))
      by_entity (Some e) found declared = declared_differs reg owner e.body f (found_keeps owner e found).1 declared

  -- what an interface declares is among the functions that it has
  declared_has : (owner : List ℕ) (f : Function) → Contains (declared_by owner (find_entity owner reg)) f → Contains (functions_of reg owner) f
  declared_has owner f has =
      let itself = bases_are_interfaces reg owner owner (rules_make_sound reg keeps).no_circle (inl refl) in
      in_all (λ n. declared_by n (find_entity n reg)) (interfaces_of reg owner) owner f itself has

  -- functions of one name are one
  functions_differ : (owner : List ℕ) (f g : Function) → Contains (declared_by owner (find_entity owner reg)) f → Contains (declared_by owner (find_entity owner reg)) g
      → f.name ≡ g.name → f ≡ g
  functions_differ owner f g has also same =
      told_by_name (λ (h : Function). h.name) (functions_of reg owner) f g (owner_differs owner f has) (declared_has owner f has) (declared_has owner g also) same

  -- parameters have different names
  params_are_apart : (owner : List ℕ) (f : Function) → Contains (declared_by owner (find_entity owner reg)) f → takes_differ f ≡ true
  params_are_apart owner f has = by_entity (find_entity owner reg) refl has
    where
      by_entity : (o : Option Entity) → find_entity owner reg ≡ o → Contains (declared_by owner o) f → takes_differ f ≡ true
      by_entity None found none = absurd (omega (arith, none.1))
      by_entity (Some e) found declared = all_at takes_differ (declared_in owner e.body) f (declared_differ owner e.body (found_keeps owner e found).0) declared

-- ---- the law

pub rules_tell_names : (reg : List Entity) → KeepsTheRules reg → NamesDiffer reg
rules_tell_names reg keeps = record { functions = functions_differ reg keeps; params = params_are_apart reg keeps }
