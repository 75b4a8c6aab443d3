-- The built-in entities rise, and are found in a registry that they are put into and in one that has more.
use Rattle.std.proofs.Common.{◌≡◌, ℕ, Bool, true, false, List, [], ◌∷◌, ◌++◌, Option, None, Some, refl, sym, ap, subst, ◌∙◌}
use Rattle.std.specs.Prelude.{Contains}
use Rattle.std.specs.List.Sorted.{IsStrictlySortedBy}
use Rattle.std.specs.Str.{bytes_eq}
use Rattle.std.proofs.lemmas.Slice.Eq.{bytes_eq-Decides}
use Rattle.uno_model.specs.BuiltIn.{built_in, HasBuiltIn}
use Rattle.uno_model.specs.Entities.{Entity}
use Rattle.uno_model.specs.Registry.{IsRising, find_entity}
use Rattle.uno_model.proofs.FindLaws.{found_at}

pub built_in_rising : IsRising built_in
unfolding IsStrictlySortedBy
built_in_rising = ((refl, (refl, (refl, (refl, tt)))), ((refl, (refl, (refl, tt))), ((refl, (refl, tt)), ((refl, tt), (tt, tt)))))

-- each entity of a registry is found under its name
pub contained_found : (reg : List Entity) (e : Entity) → IsRising reg → Contains reg e → find_entity e.name reg ≡ Some e
contained_found reg e rising (k, within, is) = found_at e.name reg k e rising within (ap (λ (x : Entity). x.name) is) ∙ ap (λ x. Some x) is

pub built_in_alone : HasBuiltIn built_in
built_in_alone = record { found = λ e has. contained_found built_in e built_in_rising has }

-- what is found is found beside one more entity, whose name was not there
found_beside : (front back : List Entity) (added x : Entity) (name : List ℕ) → find_entity added.name (front ++ back) ≡ None
    → find_entity name (front ++ back) ≡ Some x → find_entity name (front ++ added ∷ back) ≡ Some x
unfolding find_entity
found_beside [] back added x name absent found = by_test (bytes_eq name added.name) refl
  where
    by_test : (test : Bool) → bytes_eq name added.name ≡ test → find_entity name (added ∷ back) ≡ Some x
    by_test false other = rw other found
    by_test true same =
        let is = (bytes_eq-Decides name added.name).0 same in
        let bad : None ≡ Some x = sym absent ∙ ap (λ n. find_entity n back) (sym is) ∙ found in
        absurd cc
found_beside (f ∷ front) back added x name absent found = by_tests (found_beside front back added x name) (bytes_eq name f.name) (bytes_eq added.name f.name) refl refl
  where
    by_tests : (find_entity added.name (front ++ back) ≡ None → find_entity name (front ++ back) ≡ Some x → find_entity name (front ++ added ∷ back) ≡ Some x) → (here its : Bool) → bytes_eq name f.name ≡ here → bytes_eq added.name f.name ≡ its → find_entity name (f ∷ (front ++ added ∷ back)) ≡ Some x
    by_tests more here true is_here is = let bad : Some f ≡ None = rw is at absent in absurd cc
    by_tests more true false is_here is = rw is_here (rw is_here at found)
    by_tests more false false is_here is = rw is_here (more (rw is at absent) (rw is_here at found))

pub built_in_beside : (front back : List Entity) (added : Entity) → find_entity added.name (front ++ back) ≡ None → HasBuiltIn (front ++ back)
    → HasBuiltIn (front ++ added ∷ back)
built_in_beside front back added absent has = record { found = λ e in'. found_beside front back added e e.name absent (has.found e in') }
