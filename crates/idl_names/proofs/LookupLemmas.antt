-- Names are looked for in the innermost module and outwards.
use Rattle.std.proofs.Common.{◌≡◌, ◌≢◌, refl, sym, ap, subst, ◌∙◌, ℕ, ◌<◌, Bool, true, false, ◌&&◌, is_some, List, [], ◌∷◌, ◌++◌, map, length, get_or, slice_get, Option, None, Some, Contains, if◌then◌else◌, option_map, arith}
use Rattle.std.specs.List.{find, filter_map, list_all}
use Rattle.std.specs.Option.{option_to_list}
use Rattle.std.specs.Str.{bytes_eq}
use Rattle.std.specs.Cmp.Lexicographic.{bytes_decides}
use Rattle.std.proofs.lemmas.Bool.{and_parts, and_from}
use Rattle.std.proofs.lemmas.List.Folds.{list_all-append}
use Rattle.std.proofs.lemmas.Option.{get_or_from_slice_get, slice_get_within}
use Rattle.uno_model.proofs.Options.{same_some}
use Rattle.uno_model.specs.Names.{is_identifier}
use Rattle.idl_meaning_model.specs.Declarations as model
use Rattle.idl_meaning_model.specs.Declarations.{dotted, full_name, group_in, Scope, scope_of, Valued, value_name, all_valued}
use Rattle.idl_meaning_model.specs.FromFiles.{are_identifiers}
use Rattle.idl_meaning_model.specs.Scopes.{outwards, full_names, first_of, own_constant, names_of_parts, is_entity, entity_named, valued_as, constant_named, value_names}
use Rattle.idl_meaning_model.specs.Uses.{an_entity, a_value, used_meant}
use Rattle.idl_model.specs.Trees.{Path}
use Rattle.idl_names.specs.Opened.{own_path}
use Rattle.idl_names.specs.Paths.{Parts, IsInside, within}
use Rattle.idl_names.specs.Standing.{Answers, NamesIn, NamesOf, NamesOutwards, NamesThere, marked, name_at, name_if, names_behind}
use Rattle.idl_names.proofs.NameLaws.{behind_owner}
use Rattle.idl_names.proofs.TextLaws.{outwards_last}

-- ---- identifiers

pub identifiers_behind : (p q : Parts) → list_all is_identifier p ≡ true → are_identifiers q ≡ true → are_identifiers (p ++ q) ≡ true
identifiers_behind [] q first second = second
identifiers_behind (x ∷ xs) [] first second = absurd (cc)
identifiers_behind (x ∷ xs) (y ∷ ys) first second =
    let parts = and_parts (is_identifier x) (list_all is_identifier xs) first in
    and_from (is_identifier x) (list_all is_identifier (xs ++ y ∷ ys)) parts.0
    (list_all-append is_identifier xs (y ∷ ys) ∙ and_from (list_all is_identifier xs) (list_all is_identifier (y ∷ ys)) parts.1 second)

pub identifiers_front : (p : Parts) (x : List ℕ) → list_all is_identifier (p ++ x ∷ []) ≡ true → list_all is_identifier p ≡ true
identifiers_front p x all = (and_parts (list_all is_identifier p) (is_identifier x && true) (sym (list_all-append is_identifier p (x ∷ [])) ∙ all)).0

-- ---- just there

module _ (paths : List Parts) (marks : List Bool) (test : List ℕ → Bool) (answers : Answers paths marks test) where
  pub none_there : (p : Parts) → are_identifiers p ≡ true → ¬ Contains paths p → None ≡ name_if test (dotted p)
  none_there p is none = ap (λ b. if b then Some (dotted p) else None) (sym (answers p None is none))

  pub not_marked_there : (p : Parts) (n : ℕ) → are_identifiers p ≡ true → slice_get paths n ≡ Some p → get_or marks n false ≡ false → None ≡ name_if test (dotted p)
  not_marked_there p n is at marked = ap (λ b. if b then Some (dotted p) else None) (sym (answers p (Some n) is at ∙ marked))

  pub marked_there : (p : Parts) (n : ℕ) → are_identifiers p ≡ true → slice_get paths n ≡ Some p → get_or marks n false ≡ true → Some (name_at paths n) ≡ name_if test (dotted p)
  marked_there p n is at marked =
      ap (λ (z : Parts). Some (dotted z)) (get_or_from_slice_get paths n p [] at) ∙ ap (λ b. if b then Some (dotted p) else None) (sym (answers p (Some n) is at ∙ marked))

-- ---- outwards

found_first : (test : List ℕ → Bool) (name : List ℕ) (names : List (List ℕ)) (x : List ℕ) → Some x ≡ name_if test name → Some x ≡ find test (name ∷ names)
found_first test name names x is = by_test (test name) is
  where
    by_test : (b : Bool) → Some x ≡ (if b then Some name else None) → Some x ≡ (if b then Some name else find test names)
    by_test true here = here
    by_test false here = absurd (cc)

found_later : (test : List ℕ → Bool) (name : List ℕ) (names : List (List ℕ)) → None ≡ name_if test name → find test (name ∷ names) ≡ find test names
found_later test name names is = by_test (test name) is
  where
    by_test : (b : Bool) → None ≡ (if b then Some name else None) → (if b then Some name else find test names) ≡ find test names
    by_test true here = absurd (cc)
    by_test false here = refl

-- what is looked for in modules is looked for in those first
with_outwards : (ms : Parts) → (rest : List Parts) × (outwards ms ≡ ms ∷ rest)
unfolding outwards
with_outwards [] = ([], refl)
with_outwards (x ∷ xs) =
    let all = with_outwards xs in
    (map (λ inner. x ∷ inner) all.0 ++ [] ∷ [], ap (λ (k : List Parts). map (λ inner. x ∷ inner) k ++ [] ∷ []) all.1)

pub outwards_here : (test : List ℕ → Bool) (ms parts : Parts) (x : List ℕ) → Some x ≡ name_if test (dotted (ms ++ parts)) → Some x ≡ find test (names_behind (outwards ms) parts)
outwards_here test ms parts x is =
    let all = with_outwards ms in
    found_first test (dotted (ms ++ parts)) (names_behind all.0 parts) x is ∙ ap (λ (k : List Parts). find test (names_behind k parts)) (sym all.1)

pub outwards_further : (test : List ℕ → Bool) (ms parts : Parts) (m : List ℕ) → None ≡ name_if test (dotted ((ms ++ m ∷ []) ++ parts))
    → find test (names_behind (outwards (ms ++ m ∷ [])) parts) ≡ find test (names_behind (outwards ms) parts)
outwards_further test ms parts m is =
    ap (λ (k : List Parts). find test (names_behind k parts)) (outwards_last ms m) ∙ found_later test (dotted ((ms ++ m ∷ []) ++ parts)) (names_behind (outwards ms) parts) is

-- ---- constants and items

passes : (vs : List Valued) (name : List ℕ) (v : Valued) → find (λ (w : Valued). bytes_eq name (value_name w)) vs ≡ Some v → bytes_eq name (value_name v) ≡ true
passes [] name v is = absurd (cc)
passes (w ∷ ws) name v is = by_test (passes ws name v) (bytes_eq name (value_name w)) refl is
  where
    by_test : (find (λ (x : Valued). bytes_eq name (value_name x)) ws ≡ Some v → bytes_eq name (value_name v) ≡ true) → (b : Bool) → bytes_eq name (value_name w) ≡ b → (if b then Some w else find (λ (x : Valued). bytes_eq name (value_name x)) ws) ≡ Some v → bytes_eq name (value_name v) ≡ true
    by_test rest true test here = subst (λ (x : Valued). bytes_eq name (value_name x) ≡ true) (same_some here) test
    by_test rest false test here = rest here

same_name : (vs : List Valued) (name : List ℕ) (v : Valued) → valued_as vs name ≡ Some v → value_name v ≡ name
unfolding valued_as
same_name vs name v is = sym ((bytes_decides name (value_name v)).0 (passes vs name v is))

abbrev is_value : List Valued → List ℕ → Bool
is_value vs name = is_some (valued_as vs name)

name_found : (vs : List Valued) (names : List (List ℕ)) → option_map value_name (first_of (filter_map (valued_as vs) names)) ≡ find (is_value vs) names
name_found vs [] = refl
name_found vs (name ∷ names) = by_found (name_found vs names) (valued_as vs name) refl
  where
    by_found : option_map value_name (first_of (filter_map (valued_as vs) names)) ≡ find (is_value vs) names → (o : Option Valued) → valued_as vs name ≡ o → option_map value_name (first_of (filter_map (valued_as vs) (name ∷ names))) ≡ find (is_value vs) (name ∷ names)
    by_found rest None is = rw is rest
    by_found rest (Some v) is = rw is (ap Some (same_name vs name v is))

pub value_found : (vs : List Valued) (scope : Scope) (path : Path) → option_map value_name (constant_named vs scope path) ≡ find (λ name. is_some (valued_as vs name)) (value_names scope path)
unfolding constant_named
value_found vs scope path = name_found vs (value_names scope path)

-- ---- from module to module

-- what is looked for in modules is looked for in those round them, where it was not found before
pub record IsOutwards (paths : List Parts) (marks : List Bool) (modules : ℕ) (parts : Parts) (scope : ℕ) : Type 0 where
  pub low : scope < length paths
  pub same : (test : List ℕ → Bool) → Answers paths marks test → list_all is_identifier (get_or paths modules []) ≡ true → are_identifiers parts ≡ true
      → (list_all is_identifier (get_or paths scope []) ≡ true) × (find test (names_behind (outwards (get_or paths modules [])) parts) ≡ find test (names_behind (outwards (get_or paths scope [])) parts))

pub outwards_first : (paths : List Parts) (marks : List Bool) (modules : ℕ) (parts : Parts) → modules < length paths → IsOutwards paths marks modules parts modules
outwards_first paths marks modules parts low = record { low = low; same = λ test answers modules_right parts_right. (modules_right, refl) }

module _ (paths : List Parts) (marks : List Bool) (modules : ℕ) (parts : Parts) (scope : ℕ) (so_far : IsOutwards paths marks modules parts scope) where
  pub outwards_found : (n : ℕ) → NamesThere paths marks scope parts (Some n) → NamesOutwards paths marks modules parts (Some n)
  outwards_found n there test answers modules_right parts_right =
      let here = so_far.same test answers modules_right parts_right in
      let it = there test answers here.0 parts_right in
      (outwards_here test (get_or paths scope []) parts (name_at paths n) it.0 ∙ sym here.1, it.1)

  pub outwards_next : (outer : ℕ) (name : List ℕ) → IsInside paths (outer, name) scope → NamesThere paths marks scope parts None → IsOutwards paths marks modules parts outer
  outwards_next outer name inside there =
      let before = inside.before in
      let low = so_far.low in
      let path : get_or paths scope [] ≡ within paths (outer, name) = get_or_from_slice_get paths scope (within paths (outer, name)) [] inside.path in
      record {
        low = omega (arith, before, low);
        same = λ test answers modules_right parts_right.
            let here = so_far.same test answers modules_right parts_right in
            let right : list_all is_identifier (within paths (outer, name)) ≡ true = subst (λ (p : Parts). list_all is_identifier p ≡ true) path here.0 in
            let none : None ≡ name_if test (dotted (within paths (outer, name) ++ parts)) =
            (there test answers here.0 parts_right).0 ∙ ap (λ (p : Parts). name_if test (dotted (p ++ parts))) path in (
              identifiers_front (get_or paths outer []) name right,
              here.1 ∙ ap (λ (p : Parts). find test (names_behind (outwards p) parts)) path ∙ outwards_further test (get_or paths outer []) parts name none,
            );
      }

  pub outwards_seen : (found : Option ℕ) → is_some found ≡ true → NamesThere paths marks scope parts found → NamesOutwards paths marks modules parts found
  outwards_seen None is there = absurd (cc)
  outwards_seen (Some n) is there = outwards_found n there

  pub outwards_past : (found : Option ℕ) (outer : ℕ) (name : List ℕ) → is_some found ≡ false → IsInside paths (outer, name) scope → NamesThere paths marks scope parts found
      → IsOutwards paths marks modules parts outer
  outwards_past None outer name is inside there = outwards_next outer name inside there
  outwards_past (Some n) outer name is inside there = absurd (cc)

  pub outwards_rest : (found : Option ℕ) → scope ≡ 0 → slice_get paths 0 ≡ Some [] → NamesThere paths marks scope parts found → NamesOutwards paths marks modules parts found
  unfolding outwards
  outwards_rest found is first there test answers modules_right parts_right =
      let here = so_far.same test answers modules_right parts_right in
      let path : get_or paths scope [] ≡ [] = ap (λ n. get_or paths n []) is ∙ get_or_from_slice_get paths 0 [] [] first in
      let it = there test answers here.0 parts_right in (
        it.0 ∙ ap (λ (p : Parts). name_if test (dotted (p ++ parts))) path
            ∙ sym (here.1 ∙ ap (λ (p : Parts). find test (names_behind (outwards p) parts)) path),
        it.1,
      )

-- ---- as a use

pub entity_meant : (ds : List model.Declared) (scope : Scope) (path : Path) → find (is_entity ds) (full_names scope.modules path) ≡ used_meant ds scope (an_entity path)
unfolding entity_named
entity_meant ds scope path = refl

pub value_meant : (ds : List model.Declared) (scope : Scope) (path : Path)
    → find (λ name. is_some (valued_as (all_valued ds) name)) (value_names scope path) ≡ used_meant ds scope (a_value path)
value_meant ds scope path = sym (value_found (all_valued ds) scope path)

-- ---- a path, from the outermost module or from inside

pub absolute_named : (modules : Parts) (path : Path) (test : List ℕ → Bool) → path.absolute ≡ true → name_if test (dotted path.parts) ≡ find test (full_names modules path)
unfolding full_names
absolute_named modules path test is = ap (λ b. find test (if b then dotted path.parts ∷ [] else names_behind (outwards modules) path.parts)) (sym is)

pub relative_named : (modules : Parts) (path : Path) (test : List ℕ → Bool) → path.absolute ≡ false → find test (names_behind (outwards modules) path.parts) ≡ find test (full_names modules path)
unfolding full_names
relative_named modules path test is = ap (λ b. find test (if b then dotted path.parts ∷ [] else names_behind (outwards modules) path.parts)) (sym is)

-- one identifier is a constant of the own group
pub one_part_named : (scope : Scope) (path : Path) (test : List ℕ → Bool) → length path.parts ≡ 1 → find test (own_constant scope.group path) ≡ find test (value_names scope path)
unfolding value_names
one_part_named scope path test one = by_parts path.parts one
  where
    by_parts : (parts : Parts) → length parts ≡ 1 → find test (own_constant scope.group path) ≡ find test (names_of_parts scope path parts)
    by_parts [] is = absurd (omega (arith, is))
    by_parts (x ∷ []) is = refl
    by_parts (x ∷ y ∷ ys) is = absurd (omega (arith, is))

pub more_parts_named : (scope : Scope) (path : Path) (test : List ℕ → Bool) → length path.parts ≢ 1 → are_identifiers path.parts ≡ true
    → find test (full_names scope.modules path) ≡ find test (value_names scope path)
unfolding value_names
more_parts_named scope path test other right = by_parts path.parts other right
  where
    by_parts : (parts : Parts) → length parts ≢ 1 → are_identifiers parts ≡ true → find test (full_names scope.modules path) ≡ find test (names_of_parts scope path parts)
    by_parts [] is right = absurd (cc)
    by_parts (x ∷ []) is right = absurd (is refl)
    by_parts (x ∷ y ∷ ys) is right = refl

-- a constant of the own group
pub no_own_absolute : (group : Option (List ℕ)) (path : Path) (test : List ℕ → Bool) → path.absolute ≡ true → None ≡ find test (own_constant group path)
no_own_absolute group path test is = ap (λ b. find test (if b then [] else map (λ g. dotted (g ∷ path.parts)) (option_to_list group))) (sym is)

pub no_own_group : (group : Option (List ℕ)) (path : Path) (test : List ℕ → Bool) → group ≡ None → None ≡ find test (own_constant group path)
no_own_group group path test is = by_absolute path.absolute ∙ ap (λ (g : Option (List ℕ)). find test (own_constant g path)) (sym is)
  where
    by_absolute : (b : Bool) → None ≡ find test (if b then [] else map (λ g. dotted (g ∷ path.parts)) [])
    by_absolute true = refl
    by_absolute false = refl

pub own_in_group : (modules : Parts) (own : List ℕ) (group : Option (List ℕ)) (path : Path) (test : List ℕ → Bool) → path.absolute ≡ false → group ≡ Some (dotted (modules ++ own ∷ [])) → length path.parts ≡ 1
    → name_if test (dotted ((modules ++ own ∷ []) ++ path.parts)) ≡ find test (own_constant group path)
own_in_group modules own group path test inside is one =
    by_parts path.parts one
    ∙ ap (λ (g : Option (List ℕ)). find test (map (λ n. dotted (n ∷ path.parts)) (option_to_list g))) (sym is)
    ∙ ap (λ b. find test (if b then [] else map (λ g. dotted (g ∷ path.parts)) (option_to_list group))) (sym inside)
  where
    by_parts : (parts : Parts) → length parts ≡ 1 → name_if test (dotted ((modules ++ own ∷ []) ++ parts)) ≡ find test (dotted (dotted (modules ++ own ∷ []) ∷ parts) ∷ [])
    by_parts [] is = absurd (omega (arith, is))
    by_parts (x ∷ []) is = ap (λ n. name_if test n) (sym (behind_owner modules own x))
    by_parts (x ∷ y ∷ ys) is = absurd (omega (arith, is))

-- ---- what each call answers

pub there_none : (paths : List Parts) (marks : List Bool) (scope : ℕ) (parts : Parts) → ¬ Contains paths (get_or paths scope [] ++ parts) → NamesThere paths marks scope parts None
there_none paths marks scope parts none test answers scope_right parts_right =
    (none_there paths marks test answers (get_or paths scope [] ++ parts) (identifiers_behind (get_or paths scope []) parts scope_right parts_right) none, tt)

pub there_not : (paths : List Parts) (marks : List Bool) (scope : ℕ) (parts : Parts) (n : ℕ) → slice_get paths n ≡ Some (get_or paths scope [] ++ parts) → get_or marks n false ≡ false
    → NamesThere paths marks scope parts None
there_not paths marks scope parts n at is test answers scope_right parts_right =
    (not_marked_there paths marks test answers (get_or paths scope [] ++ parts) n (identifiers_behind (get_or paths scope []) parts scope_right parts_right) at is, tt)

pub there_is : (paths : List Parts) (marks : List Bool) (scope : ℕ) (parts : Parts) (n : ℕ) → slice_get paths n ≡ Some (get_or paths scope [] ++ parts) → get_or marks n false ≡ true
    → NamesThere paths marks scope parts (Some n)
there_is paths marks scope parts n at is test answers scope_right parts_right =
    let right = identifiers_behind (get_or paths scope []) parts scope_right parts_right in (
      marked_there paths marks test answers (get_or paths scope [] ++ parts) n right at is,
      (slice_get_within paths n (get_or paths scope [] ++ parts) at, ap are_identifiers (get_or_from_slice_get paths n (get_or paths scope [] ++ parts) [] at) ∙ right),
    )

pub in_absolute : (paths : List Parts) (marks : List Bool) (modules : ℕ) (path : Path) (parts : Parts) (found : Option ℕ) → slice_get paths 0 ≡ Some [] → path.absolute ≡ true → parts ≡ path.parts
    → NamesThere paths marks 0 parts found → NamesIn paths marks modules path found
in_absolute paths marks modules path parts found outermost is same there test answers modules_right parts_right =
    let first : get_or paths 0 [] ≡ [] = get_or_from_slice_get paths 0 [] [] outermost in
    let it = there test answers (ap (list_all is_identifier) first) (ap are_identifiers same ∙ parts_right) in
    (it.0 ∙ (λ i. name_if test (dotted (first i ++ same i))) ∙ absolute_named (get_or paths modules []) path test is, it.1)

pub in_relative : (paths : List Parts) (marks : List Bool) (modules : ℕ) (path : Path) (parts : Parts) (found : Option ℕ) → path.absolute ≡ false → parts ≡ path.parts
    → NamesOutwards paths marks modules parts found → NamesIn paths marks modules path found
in_relative paths marks modules path parts found is same outside test answers modules_right parts_right =
    let it = outside test answers modules_right (ap are_identifiers same ∙ parts_right) in
    (it.0 ∙ ap (λ (p : Parts). find test (names_behind (outwards (get_or paths modules [])) p)) same ∙ relative_named (get_or paths modules []) path test is, it.1)

-- in the group of the declaration
pub own_absolute : (paths : List Parts) (marks : List Bool) (d : model.Declared) (path : Path) → path.absolute ≡ true → NamesOf paths marks d path (own_constant (scope_of d).group path) None
own_absolute paths marks d path is test answers own_right parts_right = (no_own_absolute (scope_of d).group path test is, tt)

pub own_no_group : (paths : List Parts) (marks : List Bool) (d : model.Declared) (path : Path) (b : Bool) → b ≡ false → ((name : List ℕ) → group_in name d.body ≡ (if b then Some name else None))
    → NamesOf paths marks d path (own_constant (scope_of d).group path) None
unfolding scope_of
own_no_group paths marks d path b is group test answers own_right parts_right =
    (no_own_group (group_in (full_name d) d.body) path test (group (full_name d) ∙ ap (λ c. if c then Some (full_name d) else None) is), tt)

pub own_of_group : (paths : List Parts) (marks : List Bool) (d : model.Declared) (own : ℕ) (path : Path) (parts : Parts) (found : Option ℕ) (b : Bool) → path.absolute ≡ false → b ≡ true
    → ((name : List ℕ) → group_in name d.body ≡ (if b then Some name else None)) → slice_get paths own ≡ Some (own_path d) → parts ≡ path.parts → length path.parts ≡ 1
    → NamesThere paths marks own parts found → NamesOf paths marks d path (own_constant (scope_of d).group path) found
unfolding scope_of
own_of_group paths marks d own path parts found b inside is group at same one there test answers own_right parts_right =
    let read : get_or paths own [] ≡ own_path d = get_or_from_slice_get paths own (own_path d) [] at in
    let it = there test answers (ap (list_all is_identifier) read ∙ own_right) (ap are_identifiers same ∙ parts_right) in (
      it.0 ∙ (λ i. name_if test (dotted (read i ++ same i)))
          ∙ own_in_group d.modules d.name.name (group_in (full_name d) d.body) path test inside (group (full_name d) ∙ ap (λ c. if c then Some (full_name d) else None) is) one,
      it.1,
    )

pub value_one : (paths : List Parts) (marks : List Bool) (d : model.Declared) (path : Path) (found : Option ℕ) → length path.parts ≡ 1
    → NamesOf paths marks d path (own_constant (scope_of d).group path) found → NamesOf paths marks d path (value_names (scope_of d) path) found
value_one paths marks d path found one own test answers own_right parts_right =
    let it = own test answers own_right parts_right in
    (it.0 ∙ one_part_named (scope_of d) path test one, it.1)

pub value_more : (paths : List Parts) (marks : List Bool) (d : model.Declared) (modules : ℕ) (path : Path) (found : Option ℕ) → length path.parts ≢ 1 → get_or paths modules [] ≡ d.modules
    → NamesIn paths marks modules path found → NamesOf paths marks d path (value_names (scope_of d) path) found
unfolding scope_of
value_more paths marks d modules path found other read outside test answers own_right parts_right =
    let it = outside test answers (ap (list_all is_identifier) read ∙ identifiers_front d.modules d.name.name own_right) parts_right in
    (it.0 ∙ ap (λ (p : Parts). find test (full_names p path)) read ∙ more_parts_named (scope_of d) path test other parts_right, it.1)
