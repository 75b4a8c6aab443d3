-- The functions that a call may name are those of an interface behind the first three, which are the ones of the interface on which all stand.
use Rattle.std.proofs.Common.{◌≡◌, ℕ, ◌+◌, ◌≤◌, Bool, true, false, cond, ◌||◌, List, [], ◌∷◌, ◌++◌, drop, refl, sym, ap, subst, ◌∙◌, arith, if◌then◌else◌, Option, None, Some}
use Rattle.std.proofs.lemmas.Cmp.{nat_list_eq_equiv}
use Rattle.std.proofs.lemmas.List.{append_cancel_left}
use Rattle.std.proofs.lemmas.Slice.Eq.{bytes_eq-Decides}
use Rattle.std.specs.List.{find, flat_map, list_any}
use Rattle.std.specs.Option.{option_map}
use Rattle.std.specs.Str.{bytes_eq}
use Rattle.plan_model.specs.Contexts.{called_function}
use Rattle.type_registry.specs.Functions.{lent_function}
use Rattle.type_registry.specs.declared.function.FunctionRef.{FunctionRef}
use Rattle.uno_model.specs.BuiltIn.{x_interface, x_interface_name, HasBuiltIn}
use Rattle.uno_model.specs.Entities.{Entity, Body, Member, attribute, method, interface}
use Rattle.uno_model.specs.Functions.{Function, accessors_of, calls_of, declared_by, declared_in, functions_of, getter, setter, interfaces_of, is_met, root_functions}
use Rattle.uno_model.specs.Registry.{find_entity}
use Rattle.uno_model.specs.Sound.{IsSound, is_interface, is_there}
use Rattle.uno_model.proofs.FunctionLaws.{no_functions, rooted}
use Rattle.uno_model.proofs.VisitLaws.{Differ, no_name, one_name_more, interfaces_differ}
use Rattle.plan_checks.proofs.FindLemmas.{found_passes}
use Rattle.plan_checks.specs.Called.{called_by, called_of}

-- ---- what an interface declares is its own

abbrev FirstIsOf : List ℕ → List Function → Type 0
FirstIsOf owner [] = Unit {0}
FirstIsOf owner (f ∷ fs) = f.owner ≡ owner

both_of : (owner : List ℕ) (fs gs : List Function) → FirstIsOf owner fs → FirstIsOf owner gs → FirstIsOf owner (fs ++ gs)
both_of owner [] gs first second = second
both_of owner (f ∷ fs) gs first second = first

accessors_own : (owner : List ℕ) (m : Member) → FirstIsOf owner (accessors_of owner m)
accessors_own owner (attribute a) = by a.read_only
  where
    by : (b : Bool) → FirstIsOf owner (if b then getter owner a ∷ [] else getter owner a ∷ (setter owner a ∷ []))
    by true = refl
    by false = refl
accessors_own owner (method m) = tt

calls_own : (owner : List ℕ) (m : Member) → FirstIsOf owner (calls_of owner m)
calls_own owner (attribute a) = tt
calls_own owner (method m) = refl

all_of : {X : Type 0} (owner : List ℕ) (own : X → List Function) → ((x : X) → FirstIsOf owner (own x)) → (xs : List X) → FirstIsOf owner (flat_map own xs)
all_of owner own each [] = tt
all_of owner own each (x ∷ xs) = both_of owner (own x) (flat_map own xs) (each x) (all_of owner own each xs)

declared_own : (owner : List ℕ) (body : Body) → FirstIsOf owner (declared_in owner body)
declared_own owner (interface bases members) =
    both_of owner (flat_map (accessors_of owner) members) (flat_map (calls_of owner) members) (all_of owner (accessors_of owner) (accessors_own owner) members)
    (all_of owner (calls_of owner) (calls_own owner) members)
declared_own owner body = tt

found_own : (owner : List ℕ) (found : Option Entity) → FirstIsOf owner (declared_by owner found)
found_own owner None = tt
found_own owner (Some e) = declared_own owner e.body

-- ---- each interface is met once

abbrev count : List ℕ → List (List ℕ) → ℕ
count name [] = 0
count name (n ∷ ns) = cond (bytes_eq name n) 1 0 + count name ns

count_last : (name last : List ℕ) (ns : List (List ℕ)) → count name (ns ++ last ∷ []) ≡ count name ns + cond (bytes_eq name last) 1 0
count_last name last [] = omega arith
count_last name last (n ∷ ns) = let rest = count_last name last ns in omega (arith, rest)

none_counted : (name : List ℕ) (ns : List (List ℕ)) → list_any (bytes_eq name) ns ≡ false → count name ns ≡ 0
none_counted name [] new = refl
none_counted name (n ∷ ns) new = by (bytes_eq name n) refl (none_counted name ns)
  where
    by : (b : Bool) → bytes_eq name n ≡ b → (list_any (bytes_eq name) ns ≡ false → count name ns ≡ 0) → cond (bytes_eq name n) 1 0 + count name ns ≡ 0
    by true e rest = let bad : true ≡ false = sym (ap (λ b. b || list_any (bytes_eq name) ns) e) ∙ new in absurd cc
    by false e rest =
        let others : count name ns ≡ 0 = rest (sym (ap (λ b. b || list_any (bytes_eq name) ns) e) ∙ new) in
        let all : 0 + count name ns ≡ 0 = omega (arith, others) in
        ap (λ b. cond b 1 0 + count name ns) e ∙ all

unmet : (name : List ℕ) (ns : List (List ℕ)) → is_met name ns ≡ false → count name ns ≡ 0
unfolding is_met
unmet name ns new = none_counted name ns new

once : (name : List ℕ) (ns : List (List ℕ)) → Differ ns → count name ns ≤ 1
once name ns no_name = omega arith
once name ns (one_name_more met last differ new) = by (bytes_eq name last) refl (once name met differ)
  where
    by : (b : Bool) → bytes_eq name last ≡ b → count name met ≤ 1 → count name (met ++ last ∷ []) ≤ 1
    by true e rest =
        let same : name ≡ last = (bytes_eq-Decides name last).0 e in
        let before : count name met ≡ 0 = unmet name met (ap (λ n. is_met n met) same ∙ new) in
        let whole : count name (met ++ last ∷ []) ≡ count name met + 1 = count_last name last met ∙ ap (λ b. count name met + cond b 1 0) e in
        omega (arith, before, whole)
    by false e rest =
        let whole : count name (met ++ last ∷ []) ≡ count name met + 0 = count_last name last met ∙ ap (λ b. count name met + cond b 1 0) e in
        omega (arith, rest, whole)

-- ---- without the functions of the root

abbrev owner_of_first : List Function → List ℕ
owner_of_first [] = []
owner_of_first (f ∷ fs) = f.owner

module _ (reg : List Entity) (root : find_entity x_interface_name reg ≡ Some x_interface) where
  abbrev declared_at : List ℕ → List Function
  declared_at face = declared_by face (find_entity face reg)

  other_face : (n : List ℕ) (b : Bool) → bytes_eq x_interface_name n ≡ b → bytes_eq n x_interface_name ≡ b
  other_face n b e = nat_list_eq_equiv.symm n x_interface_name ∙ e

  called_if : (n : List ℕ) (b : Bool) → bytes_eq n x_interface_name ≡ b → called_of reg n ≡ (if b then [] else declared_at n)
  unfolding called_of
  called_if n b e = ap (λ is. if is then [] else declared_at n) e

  no_more_root : (faces : List (List ℕ)) → count x_interface_name faces ≡ 0 → called_by reg faces ≡ flat_map declared_at faces
  no_more_root [] none_left = refl
  no_more_root (n ∷ ns) none_left = by (bytes_eq x_interface_name n) refl (no_more_root ns)
    where
      by : (b : Bool) → bytes_eq x_interface_name n ≡ b → (count x_interface_name ns ≡ 0 → called_by reg ns ≡ flat_map declared_at ns) → called_by reg (n ∷ ns) ≡ flat_map declared_at (n ∷ ns)
      by true e rest = let bad : 1 + count x_interface_name ns ≡ 0 = sym (ap (λ b. cond b 1 0 + count x_interface_name ns) e) ∙ none_left in absurd (omega (arith, bad))
      by false e rest =
          let all : 0 + count x_interface_name ns ≡ 0 = sym (ap (λ b. cond b 1 0 + count x_interface_name ns) e) ∙ none_left in
          let left : count x_interface_name ns ≡ 0 = omega (arith, all) in
          ap (λ gs. gs ++ called_by reg ns) (called_if n false (other_face n false e)) ∙ ap (λ gs. declared_at n ++ gs) (rest left)

  behind_root : (faces : List (List ℕ)) (more : List Function) → count x_interface_name faces ≤ 1 → flat_map declared_at faces ≡ root_functions ++ more → called_by reg faces ≡ more
  behind_root [] more few are = absurd cc
  behind_root (n ∷ ns) more few are = by (bytes_eq x_interface_name n) refl (declared_at n) refl (found_own n (find_entity n reg)) (behind_root ns more)
    where
      by : (b : Bool) → bytes_eq x_interface_name n ≡ b → (fs : List Function) → declared_at n ≡ fs → FirstIsOf n fs
          → (count x_interface_name ns ≤ 1 → flat_map declared_at ns ≡ root_functions ++ more → called_by reg ns ≡ more) → called_by reg (n ∷ ns) ≡ more
      by true e fs own first rest =
          let same : x_interface_name ≡ n = (bytes_eq-Decides x_interface_name n).0 e in
          let all : 1 + count x_interface_name ns ≤ 1 = subst (λ b. cond b 1 0 + count x_interface_name ns ≤ 1) e few in
          let left : count x_interface_name ns ≡ 0 = omega (arith, all) in
          let three : declared_at n ≡ root_functions = ap declared_at (sym same) ∙ ap (declared_by x_interface_name) root in
          let behind : flat_map declared_at ns ≡ more = append_cancel_left root_functions (flat_map declared_at ns) more (ap (λ gs. gs ++ flat_map declared_at ns) (sym three) ∙ are) in
          ap (λ gs. gs ++ called_by reg ns) (called_if n true (other_face n true e)) ∙ no_more_root ns left ∙ behind
      by false e [] own first rest =
          let all : 0 + count x_interface_name ns ≤ 1 = subst (λ b. cond b 1 0 + count x_interface_name ns ≤ 1) e few in
          let fewer : count x_interface_name ns ≤ 1 = omega (arith, all) in
          ap (λ gs. gs ++ called_by reg ns) (called_if n false (other_face n false e) ∙ own)
          ∙ rest fewer (ap (λ gs. gs ++ flat_map declared_at ns) (sym own) ∙ are)
      by false e (f ∷ fs) own first rest =
          let cut : f ∷ (fs ++ flat_map declared_at ns) ≡ root_functions ++ more = ap (λ gs. gs ++ flat_map declared_at ns) (sym own) ∙ are in
          let owner : f.owner ≡ x_interface_name = ap owner_of_first cut in
          let there : bytes_eq x_interface_name n ≡ true = (bytes_eq-Decides x_interface_name n).1 (sym owner ∙ first) in
          let bad : true ≡ false = sym there ∙ e in absurd cc

pub called_are : (reg : List Entity) (face : List ℕ) → IsSound reg → HasBuiltIn reg → is_there reg is_interface face ≡ true
    → called_by reg (interfaces_of reg face) ≡ drop 3 (functions_of reg face)
called_are reg face sound built_in there =
    let root : find_entity x_interface_name reg ≡ Some x_interface = built_in.found x_interface (4, omega arith, refl) in
    let first = (rooted reg face sound root there).0 in
    behind_root reg root (interfaces_of reg face) first.0 (once x_interface_name (interfaces_of reg face) (interfaces_differ reg face sound.no_circle)) first.1
    ∙ sym (ap (drop 3) first.1)

-- ---- a function of a name

pub found_called : (reg : List Entity) (face name : List ℕ) (faces : List (List ℕ)) (r : Option Function) → IsSound reg → HasBuiltIn reg → is_there reg is_interface face ≡ true
    → faces ≡ interfaces_of reg face → r ≡ find (λ (f : Function). bytes_eq name f.name) (called_by reg faces) → r ≡ called_function reg face name
unfolding called_function
found_called reg face name faces r sound built_in there are is =
    is ∙ ap (find (λ (f : Function). bytes_eq name f.name)) (ap (called_by reg) are ∙ called_are reg face sound built_in there)

pub none_called : (reg : List Entity) (face name : List ℕ) → IsSound reg → is_there reg is_interface face ≡ false → None ≡ called_function reg face name
unfolding called_function
none_called reg face name sound no_one = sym (ap (λ (fs : List Function). find (λ (f : Function). bytes_eq name f.name) (drop 3 fs)) (no_functions reg face sound no_one))

pub called_named : (reg : List Entity) (face name text : List ℕ) (found : Option FunctionRef) (f : FunctionRef) → option_map lent_function found ≡ called_function reg face text → text ≡ name
    → found ≡ Some f → name ≡ (lent_function f).name
unfolding called_function
called_named reg face name text found f is same one =
    (bytes_eq-Decides name (lent_function f).name).0
    (found_passes (λ (g : Function). bytes_eq name g.name) (drop 3 (functions_of reg face)) (lent_function f)
    (ap (λ t. find (λ (g : Function). bytes_eq t g.name) (drop 3 (functions_of reg face))) (sym same) ∙ sym is ∙ ap (option_map lent_function) one))
