-- Declarations, each with its name, and what is declared under a name.
use Rattle.std.proofs.Common.{◌≡◌, refl, sym, ap, ap₂, subst, ◌∙◌, ℕ, zero, suc, ◌+◌, ◌<◌, ◌≤◌, Bool, true, false, not, ◌&&◌, List, [], ◌∷◌, ◌++◌, map, length, take, get_or, Option, None, Some, option_map, cond, if◌then◌else◌, arith}
use Rattle.std.proofs.lemmas.List.{map-append, take_all, take_more}
use Rattle.std.proofs.lemmas.List.Folds.{find-append}
use Rattle.std.proofs.lemmas.Map.Text.{is_eq-slice_cmp}
use Rattle.std.proofs.lemmas.Slice.Eq.{bytes_eq-Decides}
use Rattle.std.specs.Borrow.{Bor}
use Rattle.std.specs.BTreeMap as btree
use Rattle.std.specs.BTreeMap.{BTreeMap}
use Rattle.std.specs.Cmp.Lexicographic.{slice_cmp}
use Rattle.std.specs.List.{AllByRecursion}
use Rattle.std.specs.Option.{option_or}
use Rattle.std.specs.Ordering.{nat_cmp}
use Rattle.std.specs.Str.{bytes_eq}
use Rattle.std.specs.declared.cmp.Ordering.{Ordering}
use Rattle.idl_joint_places.proofs.LoopLemmas.{one_taken}
use Rattle.idl_joint_places.proofs.ThereLemmas.{named_so}
use Rattle.idl_meaning_model.specs.Declarations.{Declared, dotted, full_name, is_forward}
use Rattle.idl_meaning_model.specs.Scopes.{declared_as}
use Rattle.idl_model.specs.Trees as tree
use Rattle.idl_names.specs.Collected.{HasNumbers}
use Rattle.idl_names.specs.Paths.{Parts}
use Rattle.idl_names.specs.declared.declaration.Declared as code
use Rattle.idl_repeated_names.specs.Over.{AreNamed, IsNamed, NotesOwner, Owns, owned, told}
use Rattle.idl_repeated_names.specs.declared.owners.Entry.{Entry}
use Rattle.idl_trees.specs.Trees.{declaration_of}
use Rattle.idl_trees.specs.declared.declaration.Declaration.{Declaration}

-- ---- each of them

pub at_index : {X : Type 0} (P : X → Type 0) (xs : List X) (i : ℕ) (x : X) → i < length xs → x ≡ get_or xs i x → AllByRecursion P xs → P x
at_index P [] i x low is all = absurd (omega arith)
at_index P (y ∷ ys) zero x low is all = subst P (sym is) all.0
at_index P (y ∷ ys) (suc i) x low is all = at_index P ys i x (omega arith) is all.1

all_more : {X : Type 0} (P : X → Type 0) (xs : List X) (x : X) → AllByRecursion P xs → P x → AllByRecursion P (xs ++ x ∷ [])
all_more P [] x all one = (one, tt)
all_more P (y ∷ ys) x all one = (all.0, all_more P ys x all.1 one)

-- ---- with their names

pub none_named : (paths : List Parts) (es : List Entry) → es ≡ [] → AreNamed paths [] es
none_named paths es none = subst (AreNamed paths []) (sym none) (record { same = refl; named = tt })

pub named_more : (paths : List Parts) (all : List code.Declared) (i : ℕ) (d : code.Declared) (old new : List Entry) (name : List ℕ) → i < length all → d ≡ get_or all i d → HasNumbers paths d
    → name ≡ dotted (get_or paths d.path []) → AreNamed paths (take i all) old → new ≡ old ++ record { name = name; declared = d } ∷ [] → AreNamed paths (take (i + 1) all) new
named_more paths all i d old new name low is has spelled before put =
    let e : Entry = record { name = name; declared = d } in
    record {
      same =
          ap (map (λ (k : Entry). k.declared)) put ∙ map-append (λ (k : Entry). k.declared) old (e ∷ []) ∙ ap (λ ds. ds ++ d ∷ []) before.same
          ∙ sym (take_more all i d low ∙ ap (λ x. take i all ++ x ∷ []) (sym is));
      named = subst (AllByRecursion (IsNamed paths)) (sym put) (all_more (IsNamed paths) old e before.named (named_so paths d name has spelled));
    }

pub all_named : (paths : List Parts) (all : List code.Declared) (i : ℕ) (es : List Entry) → length all ≤ i → AreNamed paths (take i all) es → AreNamed paths all es
all_named paths all i es past named = subst (λ ds. AreNamed paths ds es) (take_all i all past) named

-- ---- what is declared under a name

abbrev pub Owners : Type 0
Owners = BTreeMap (Bor (List ℕ)) (Bor Declaration)

mapped_cond : {X Y : Type 0} (f : X → Y) (b : Bool) (x y : Option X) → option_map f (cond b x y) ≡ cond b (option_map f x) (option_map f y)
mapped_cond f true x y = refl
mapped_cond f false x y = refl

mapped_or : {X Y : Type 0} (f : X → Y) (x y : Option X) → option_map f (option_or x y) ≡ option_or (option_map f x) (option_map f y)
mapped_or f None y = refl
mapped_or f (Some x) y = refl

or_none : {X : Type 0} (x : Option X) → option_or x None ≡ x
or_none None = refl
or_none (Some x) = refl

pub none_owned : (owners : Owners) (paths : List Parts) → btree.IsEmpty owners → Owns owners (map (told paths) [])
unfolding owned declared_as
none_owned owners paths none name = rw none refl

abbrev by_text : Bor (List ℕ) → Bor (List ℕ) → Ordering
by_text x y = slice_cmp nat_cmp x.now y.now

-- what a name stands for, if it is one more
abbrev more_of : List ℕ → List ℕ → tree.Declaration → Option tree.Declaration
more_of k name body = if not (is_forward body) && bytes_eq k name then Some body else None

pub notes_none : (owners : Owners) (name : List ℕ) (body : tree.Declaration) → is_forward body ≡ true → NotesOwner owners owners name body
notes_none owners name body forward k =
    sym (ap (λ (b : Bool). option_or (owned owners k) (if not b && bytes_eq k name then Some body else None)) forward ∙ or_none (owned owners k))

-- where there is one, it stays
pub notes_kept : (owners : Owners) (name : List ℕ) (body other : tree.Declaration) → owned owners name ≡ Some other → NotesOwner owners owners name body
notes_kept owners name body other there k = by_name (bytes_eq k name) refl
  where
    stays : (more : Option tree.Declaration) → owned owners k ≡ Some other → owned owners k ≡ option_or (owned owners k) more
    stays more is = is ∙ ap (λ o. option_or o more) (sym is)

    by_name : (b : Bool) → bytes_eq k name ≡ b → owned owners k ≡ option_or (owned owners k) (if not (is_forward body) && bytes_eq k name then Some body else None)
    by_name true is = stays (more_of k name body) (ap (owned owners) ((bytes_eq-Decides k name).0 is) ∙ there)
    by_name false is = sym (ap (λ (b : Bool). option_or (owned owners k) (if not (is_forward body) && b then Some body else None)) is ∙ nothing (is_forward body))
      where
        nothing : (f : Bool) → option_or (owned owners k) (if not f && false then Some body else None) ≡ owned owners k
        nothing true = or_none (owned owners k)
        nothing false = or_none (owned owners k)

same_turned : (x y : List ℕ) → bytes_eq x y ≡ bytes_eq y x
same_turned x y = by_test (bytes_eq x y) (bytes_eq y x) refl refl
  where
    by_test : (a b : Bool) → bytes_eq x y ≡ a → bytes_eq y x ≡ b → a ≡ b
    by_test true true is also = refl
    by_test false false is also = refl
    by_test true false is also = sym ((bytes_eq-Decides y x).1 (sym ((bytes_eq-Decides x y).0 is))) ∙ also
    by_test false true is also = sym is ∙ (bytes_eq-Decides x y).1 (sym ((bytes_eq-Decides y x).0 also))

pub notes_one : (old new : Owners) (name : Bor (List ℕ)) (body : Bor Declaration) → is_forward (declaration_of body.now) ≡ false → None ≡ owned old name.now → btree.Updates by_text old new name (Some body)
    → NotesOwner old new name.now (declaration_of body.now)
unfolding owned
notes_one old new name body plain none up k =
    let at : Bor (List ℕ) = record { ref_ptr = name.ref_ptr; now = k } in
    let view : Bor Declaration → tree.Declaration = λ b. declaration_of b.now in
    ap (option_map view) (up.0 at ∙ ap (λ b. cond b (Some body) (btree.get by_text old at)) (is_eq-slice_cmp name.now k ∙ same_turned name.now k))
    ∙ mapped_cond view (bytes_eq k name.now) (Some body) (btree.get by_text old at)
    ∙ by_name (bytes_eq k name.now) refl
    ∙ ap (λ (b : Bool). option_or (option_map view (btree.get by_text old at)) (if not b && bytes_eq k name.now then Some (declaration_of body.now) else None)) (sym plain)
  where
    one : tree.Declaration
    one = declaration_of body.now

    by_name : (b : Bool) → bytes_eq k name.now ≡ b → cond b (Some one) (owned old k) ≡ option_or (owned old k) (if b then Some one else None)
    by_name true is = sym (ap (λ o. option_or o (Some one)) (ap (owned old) ((bytes_eq-Decides k name.now).0 is) ∙ sym none))
    by_name false is = sym (or_none (owned old k))

-- one more of them
module _ (paths : List Parts) (es : List Entry) (i : ℕ) (e : Entry) where
  pub owns_more : (old new : Owners) → i < length es → e ≡ get_or es i e → IsNamed paths e → Owns old (map (told paths) (take i es)) → NotesOwner old new e.name (declaration_of e.declared.body.now)
      → Owns new (map (told paths) (take (i + 1) es))
  unfolding declared_as
  owns_more old new low is named before noted k =
      let ds : List Declared = map (told paths) (take i es) in
      let body : Declared → tree.Declaration = λ d. d.body in
      noted k ∙ ap₂ (λ x y. option_or x y) (before k) (here (is_forward (declaration_of e.declared.body.now)))
      ∙ sym (mapped_or body (declared_as ds k) (declared_as (told paths e ∷ []) k)) ∙ ap (option_map body) (sym (find-append (λ (d : Declared). not (is_forward d.body) && bytes_eq k (full_name d)) ds (told paths e ∷ [])))
      ∙ ap (λ xs. option_map body (declared_as xs k)) (sym (one_taken (told paths) es i e low is))
    where
      one : tree.Declaration
      one = declaration_of e.declared.body.now

      by_test : (b : Bool) → (if b then Some one else None) ≡ option_map (λ (d : Declared). d.body) (cond b (Some (told paths e)) None)
      by_test true = refl
      by_test false = refl

      here : (f : Bool) → (if not f && bytes_eq k e.name then Some one else None) ≡ option_map (λ (d : Declared). d.body) (cond (not f && bytes_eq k (full_name (told paths e))) (Some (told paths e)) None)
      here f = ap (λ (n : List ℕ). if not f && bytes_eq k n then Some one else None) named ∙ by_test (not f && bytes_eq k (full_name (told paths e)))

pub owns_all : (paths : List Parts) (es : List Entry) (i : ℕ) (owners : Owners) → length es ≤ i → Owns owners (map (told paths) (take i es)) → Owns owners (map (told paths) es)
owns_all paths es i owners past so_far = subst (λ ks. Owns owners (map (told paths) ks)) (take_all i es past) so_far
