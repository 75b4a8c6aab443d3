-- What is declared behind what was declared before.
use Rattle.std.proofs.Common.{◌≡◌, refl, sym, ap, subst, ◌∙◌, inl, inr, ℕ, ◌+◌, ◌<◌, List, [], ◌∷◌, ◌++◌, map, length, take, get_or, slice_get, Some, Result, Ok, Err, OnOk, append_assoc, append-nil, arith}
use Rattle.std.specs.List.{AllByRecursion, flat_map}
use Rattle.std.proofs.lemmas.List.{map-append}
use Rattle.std.proofs.lemmas.Option.{get_or_from_slice_get, slice_get-get_or, slice_get_within}
use Rattle.idl_meaning_model.specs.Declarations as model
use Rattle.idl_meaning_model.specs.Declarations.{declared_in, all_declared_in, declarations}
use Rattle.idl_model.specs.Trees.{Def, Defs, defs, Decl, Tree}
use Rattle.idl_model.specs.Trees as tree
use Rattle.idl_names.specs.Collected.{declared_of, HasNumbers, Keep, Adds, IsCollected}
use Rattle.idl_names.specs.Paths.{Parts, within, Opens}
use Rattle.idl_names.specs.declared.collecting.Collected.{Collected}
use Rattle.idl_names.specs.declared.declaration.Declared.{Declared}
use Rattle.idl_names.proofs.PathLaws.{in_front}
use Rattle.idl_names.proofs.UsedLemmas.{one_taken, one_joined}
use Rattle.idl_trees.specs.Names.{id_of}
use Rattle.idl_trees.specs.Trees.{declaration_of}

-- ---- paths that stay

pub kept_read : (old new : List Parts) (n : ℕ) → Keep old new → n < length old → get_or new n [] ≡ get_or old n []
kept_read old new n keep low = get_or_from_slice_get new n (get_or old n []) [] (keep n low ∙ slice_get-get_or old n [] low)

pub kept_low : (old new : List Parts) (n : ℕ) → Keep old new → n < length old → n < length new
kept_low old new n keep low = slice_get_within new n (get_or old n []) (keep n low ∙ slice_get-get_or old n [] low)

pub kept_both : (a b c : List Parts) → Keep a b → Keep b c → Keep a c
kept_both a b c one two n low = two n (kept_low a b n one low) ∙ one n low

pub opened_keeps : (old : List Parts) (p : Parts) (new : List Parts) → Opens old p new → Keep old new
opened_keeps old p new opens n low = elim opens [
  | inl same ↦ ap (λ (ps : List Parts). slice_get ps n) same
  | inr longer ↦ ap (λ (ps : List Parts). slice_get ps n) longer ∙ in_front old (p ∷ []) n low
]

-- ---- declarations where paths stay

pub numbers_kept : (a b : List Parts) (d : Declared) → Keep a b → HasNumbers a d → HasNumbers b d
numbers_kept a b d keep has =
    record {
      low = kept_low a b d.modules keep has.low;
      own = keep d.path (slice_get_within a d.path (within a (d.modules, d.name.now.name)) has.own) ∙ has.own
          ∙ ap (λ (p : Parts). Some (p ++ d.name.now.name ∷ [])) (sym (kept_read a b d.modules keep has.low));
    }

pub all_numbers_kept : (a b : List Parts) (ds : List Declared) → Keep a b → AllByRecursion (HasNumbers a) ds → AllByRecursion (HasNumbers b) ds
all_numbers_kept a b [] keep has = tt
all_numbers_kept a b (d ∷ ds) keep has = (numbers_kept a b d keep has.0, all_numbers_kept a b ds keep has.1)

abbrev pub told_in : Parts → Declared → model.Declared
told_in modules d = record { modules = modules; published = d.published; name = id_of d.name.now; body = declaration_of d.body.now }

pub told_kept : (a b : List Parts) (ds : List Declared) → Keep a b → AllByRecursion (HasNumbers a) ds → map (declared_of b) ds ≡ map (declared_of a) ds
told_kept a b [] keep has = refl
told_kept a b (d ∷ ds) keep has =
    ap (λ (p : Parts). told_in p d ∷ map (declared_of b) ds) (kept_read a b d.modules keep has.0.low) ∙ ap (λ rest. declared_of a d ∷ rest) (told_kept a b ds keep has.1)

all_both : (P : Declared → Type 0) (xs ys : List Declared) → AllByRecursion P xs → AllByRecursion P ys → AllByRecursion P (xs ++ ys)
all_both P [] ys first second = second
all_both P (x ∷ xs) ys first second = (first.0, all_both P xs ys first.1 second)

-- ---- what is added

pub adds_none : (a : Collected) → Adds a [] a
adds_none a = record { fresh = []; items = sym (append-nil a.declared.items); kept = λ n low. refl; told = refl; numbered = tt }

pub adds_both : (a b c : Collected) (xs ys : List model.Declared) → Adds a xs b → Adds b ys c → Adds a (xs ++ ys) c
adds_both a b c xs ys one two =
    let front : map (declared_of c.paths) one.fresh ≡ xs = told_kept b.paths c.paths one.fresh two.kept one.numbered ∙ one.told in
    record {
      fresh = one.fresh ++ two.fresh;
      items = two.items ∙ ap (λ k. k ++ two.fresh) one.items ∙ append_assoc a.declared.items one.fresh two.fresh;
      kept = kept_both a.paths b.paths c.paths one.kept two.kept;
      told = map-append (declared_of c.paths) one.fresh two.fresh ∙ (λ i. front i ++ two.told i);
      numbered = all_both (HasNumbers c.paths) one.fresh two.fresh (all_numbers_kept b.paths c.paths one.fresh two.kept one.numbered) two.numbered;
    }

adds_later : (a b c : Collected) (xs : List model.Declared) → Keep a.paths b.paths → b.declared.items ≡ a.declared.items → Adds b xs c → Adds a xs c
adds_later a b c xs keep same adds =
    record {
      fresh = adds.fresh;
      items = adds.items ∙ ap (λ k. k ++ adds.fresh) same;
      kept = kept_both a.paths b.paths c.paths keep adds.kept;
      told = adds.told;
      numbered = adds.numbered;
    }

-- a declaration in opened modules, whose own path is opened
pub adds_one : (a c : Collected) (d : Declared) (name : List ℕ) → c.declared.items ≡ a.declared.items ++ d ∷ [] → name ≡ d.name.now.name → d.modules < length a.paths
    → Opens a.paths (within a.paths (d.modules, name)) c.paths → slice_get c.paths d.path ≡ Some (within a.paths (d.modules, name))
    → Adds a (declared_in (get_or a.paths d.modules []) (tree.declared d.published (record { name = id_of d.name.now; body = declaration_of d.body.now }))) c
unfolding declared_in
adds_one a c d name items same low opens own =
    let keep = opened_keeps a.paths (within a.paths (d.modules, name)) c.paths opens in
    let read = kept_read a.paths c.paths d.modules keep low in
    record {
      fresh = d ∷ [];
      items = items;
      kept = keep;
      told = ap (λ (p : Parts). told_in p d ∷ []) read;
      numbered = (
        record {
          low = kept_low a.paths c.paths d.modules keep low;
          own = own ∙ ap (λ (n : List ℕ). Some (get_or a.paths d.modules [] ++ n ∷ [])) same ∙ ap (λ (p : Parts). Some (p ++ d.name.now.name ∷ [])) (sym read);
        },
        tt,
      );
    }

-- what stands in a module whose path is opened
pub adds_inside : (a b c : Collected) (modules opened : ℕ) (said : List ℕ) (name : tree.Id) (ds : Defs) → b.declared.items ≡ a.declared.items → said ≡ name.name
    → Opens a.paths (within a.paths (modules, said)) b.paths → slice_get b.paths opened ≡ Some (within a.paths (modules, said))
    → Adds b (all_declared_in (get_or b.paths opened []) ds) c → Adds a (declared_in (get_or a.paths modules []) (tree.in_module name ds)) c
unfolding declared_in
adds_inside a b c modules opened said name ds items same opens at adds =
    adds_later a b c (all_declared_in (within a.paths (modules, name.name)) ds) (opened_keeps a.paths (within a.paths (modules, said)) b.paths opens) items
    (subst (λ (p : Parts). Adds b (all_declared_in p ds) c)
    (get_or_from_slice_get b.paths opened (within a.paths (modules, said)) [] at ∙ ap (λ (n : List ℕ). get_or a.paths modules [] ++ n ∷ []) same) adds)

pub on_ok : {T E P Q : Type 0} (result : Result T E) → (P → Q) → OnOk result P → OnOk result Q
on_ok (Ok x) leads holds = leads holds
on_ok (Err e) leads holds = tt

-- ---- one after the other

one_def : (modules : Parts) (xs : List Def) (x : Def) → all_declared_in modules (defs (xs ++ x ∷ [])) ≡ all_declared_in modules (defs xs) ++ declared_in modules x
unfolding all_declared_in
one_def modules [] x = append-nil (declared_in modules x)
one_def modules (y ∷ ys) x =
    ap (λ k. declared_in modules y ++ k) (one_def modules ys x) ∙ sym (append_assoc (declared_in modules y) (all_declared_in modules (defs ys)) (declared_in modules x))

pub adds_next : {X : Type 0} (view : X → Def) (a b c : Collected) (modules : ℕ) (xs : List X) (i : ℕ) (x : X) → modules < length a.paths → i < length xs → x ≡ get_or xs i x
    → Adds a (all_declared_in (get_or a.paths modules []) (defs (map view (take i xs)))) b → Adds b (declared_in (get_or b.paths modules []) (view x)) c
    → Adds a (all_declared_in (get_or a.paths modules []) (defs (map view (take (i + 1) xs)))) c
adds_next view a b c modules xs i x low less is so_far adds =
    let path = get_or a.paths modules [] in
    subst (λ more. Adds a more c) (sym (ap (λ k. all_declared_in path (defs k)) (one_taken view xs i x less is) ∙ one_def path (map view (take i xs)) (view x)))
    (adds_both a b c (all_declared_in path (defs (map view (take i xs)))) (declared_in path (view x)) so_far
    (subst (λ (p : Parts). Adds b (declared_in p (view x)) c) (kept_read a.paths b.paths modules so_far.kept low) adds))

pub adds_no_defs : (a : Collected) (modules : Parts) → Adds a (all_declared_in modules (defs [])) a
unfolding all_declared_in
adds_no_defs a modules = adds_none a

pub adds_no_trees : (a : Collected) → Adds a (declarations []) a
unfolding declarations
adds_no_trees a = adds_none a

in_a_tree : (modules : Parts) (ds : List Def) → all_declared_in modules (defs ds) ≡ flat_map (declared_in modules) ds
unfolding all_declared_in
in_a_tree modules [] = refl
in_a_tree modules (d ∷ ds) = ap (λ k. declared_in modules d ++ k) (in_a_tree modules ds)

pub adds_tree : {X : Type 0} (view : X → Tree) (a b c : Collected) (xs : List X) (i : ℕ) (x : X) → 0 < length a.paths → get_or a.paths 0 [] ≡ [] → i < length xs → x ≡ get_or xs i x
    → Adds a (declarations (map view (take i xs))) b → Adds b (all_declared_in (get_or b.paths 0 []) (defs (view x))) c → Adds a (declarations (map view (take (i + 1) xs))) c
unfolding declarations
adds_tree view a b c xs i x low outermost less is so_far adds =
    subst (λ more. Adds a more c) (sym (one_joined view (λ t. flat_map (declared_in []) t) xs i x less is))
    (adds_both a b c (flat_map (λ t. flat_map (declared_in []) t) (map view (take i xs))) (flat_map (declared_in []) (view x)) so_far
    (subst (λ more. Adds b more c) (ap (λ (p : Parts). all_declared_in p (defs (view x))) (kept_read a.paths b.paths 0 so_far.kept low ∙ outermost) ∙ in_a_tree [] (view x)) adds))

pub all_collected : (a c : Collected) (trees : List Tree) → a.declared.items ≡ [] → a.paths ≡ [] ∷ [] → Adds a (declarations trees) c → IsCollected trees c
all_collected a c trees empty first adds =
    let items : c.declared.items ≡ adds.fresh = adds.items ∙ ap (λ k. k ++ adds.fresh) empty in
    let low : 0 < length a.paths = subst (λ (ps : List Parts). 0 < length ps) (sym first) (omega arith) in
    record {
      told = ap (map (declared_of c.paths)) items ∙ adds.told;
      numbered = subst (AllByRecursion (HasNumbers c.paths)) (sym items) adds.numbered;
      outermost = adds.kept 0 low ∙ ap (λ (ps : List Parts). slice_get ps 0) first;
    }
