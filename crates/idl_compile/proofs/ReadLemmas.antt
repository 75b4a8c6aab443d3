-- Files that are read one behind the other.
use Rattle.std.proofs.Common.{◌≡◌, refl, sym, ap, subst, ◌∙◌, ℕ, zero, suc, ◌+◌, ◌<◌, ◌≤◌, List, [], ◌∷◌, ◌++◌, map, length, take, drop, get_or, arith}
use Rattle.idl_compile.specs.Checking.{AreRight}
use Rattle.idl_compile.proofs.Telling.{told_as}
use Rattle.idl_compile.specs.Refusing.{AddsTree, Tells}
use Rattle.idl_compile.specs.declared.error.CompileError.{CompileError}
use Rattle.idl_compiled_model.proofs.OfFiles.{are_of_files, values_apart, nothing_wrong}
use Rattle.idl_compiled_model.proofs.SpelledCounts.{all_values_fit, all_members_named}
use Rattle.idl_compiled_model.specs.Compiling.{IsRead, AreRead, Refusal, StopsAtFile, IsUnread}
use Rattle.idl_model.specs.Trees.{Tree}
use Rattle.idl_trees.specs.Trees.{tree_of, trees_of}
use Rattle.idl_trees.specs.declared.declaration.Tree as code
use Rattle.std.proofs.lemmas.List.{get_or_default, length-map, map-append, take_all}

as_many : (file : ℕ) (texts : List (List ℕ)) (trees : List Tree) → AreRead file texts trees → length texts ≡ length trees
as_many file [] [] read = refl
as_many file [] (tree ∷ trees) read = absurd read
as_many file (text ∷ texts) [] read = absurd read
as_many file (text ∷ texts) (tree ∷ trees) read = ap suc (as_many (suc file) texts trees read.1)

-- one more behind those that are read
one_behind : (file : ℕ) (texts : List (List ℕ)) (trees : List Tree) (text : List ℕ) (tree : Tree) → AreRead file texts trees → IsRead (file + length texts) text tree
    → AreRead file (texts ++ text ∷ []) (trees ++ tree ∷ [])
one_behind file [] [] text tree read more = (subst (λ n. IsRead n text tree) (omega arith) more, tt)
one_behind file [] (t ∷ trees) text tree read more = absurd read
one_behind file (s ∷ texts) [] text tree read more = absurd read
one_behind file (s ∷ texts) (t ∷ trees) text tree read more =
    (read.0, one_behind (suc file) texts trees text tree read.1 (subst (λ n. IsRead n text tree) (omega arith) more))

-- ---- in a loop

taken_more : {X Y : Type 0} (view : X → Y) (xs : List X) (i : ℕ) (x : X) → i < length xs → x ≡ get_or xs i x → map view (take (suc i) xs) ≡ map view (take i xs) ++ view x ∷ []
taken_more view [] i x low is = absurd (omega arith)
taken_more view (y ∷ ys) zero x low is = ap (λ z. view z ∷ []) (sym is)
taken_more view (y ∷ ys) (suc i) x low is = ap (λ zs. view y ∷ zs) (taken_more view ys i x (omega arith) is)

next_is : (i : ℕ) → suc i ≡ i + 1
next_is i = omega arith

one_taken : {X Y : Type 0} (view : X → Y) (xs : List X) (i : ℕ) (x : X) → i < length xs → x ≡ get_or xs i x → map view (take (i + 1) xs) ≡ map view (take i xs) ++ view x ∷ []
one_taken view xs i x low is = subst (λ n. map view (take n xs) ≡ map view (take i xs) ++ view x ∷ []) (next_is i) (taken_more view xs i x low is)

many_so : (now : List code.Tree) → length now ≡ length (trees_of now)
many_so now = sym (length-map now tree_of)

from_none : (n : ℕ) → n ≡ 0 + n
from_none n = omega arith

read_on : {X : Type 0} (view : X → List ℕ) (xs : List X) (i : ℕ) (x : X) (now new : List code.Tree) → i < length xs → x ≡ get_or xs i x
    → AreRead 0 (map view (take i xs)) (trees_of now) → AddsTree now (view x) new → AreRead 0 (map view (take (i + 1) xs)) (trees_of new)
read_on view xs i x now new low is so_far adds =
    let many = as_many 0 (map view (take i xs)) (trees_of now) so_far in
    let number : length now ≡ length (map view (take i xs)) = many_so now ∙ sym many in
    let there = one_behind 0 (map view (take i xs)) (trees_of now) (view x) adds.tree so_far (subst (λ n. IsRead n (view x) adds.tree) (number ∙ from_none (length (map view (take i xs)))) adds.read) in
    subst (λ ts. AreRead 0 ts (trees_of new)) (sym (one_taken view xs i x low is)) (subst (AreRead 0 (map view (take i xs) ++ view x ∷ [])) (sym adds.added) there)

split_at : {X Y : Type 0} (view : X → Y) (xs : List X) (i : ℕ) (x : X) → i < length xs → x ≡ get_or xs i x
    → map view xs ≡ map view (take i xs) ++ view x ∷ map view (drop (suc i) xs)
split_at view [] i x low is = absurd (omega arith)
split_at view (y ∷ xs) zero x low is = ap (λ k. view k ∷ map view xs) (sym is)
split_at view (y ∷ xs) (suc i) x low is = ap (λ k. view y ∷ k) (split_at view xs i x (omega arith) is)

stops_at : {X : Type 0} (view : X → List ℕ) (xs : List X) (i : ℕ) (x : X) (now : List code.Tree) (r : Refusal) → i < length xs → x ≡ get_or xs i x
    → AreRead 0 (map view (take i xs)) (trees_of now) → IsUnread (length now) (view x) r → StopsAtFile (map view xs) r
stops_at view xs i x now r low is so_far unread =
    let many = as_many 0 (map view (take i xs)) (trees_of now) so_far in
    record {
      before = map view (take i xs);
      text = view x;
      behind = map view (drop (suc i) xs);
      split = split_at view xs i x low is;
      trees = trees_of now;
      read = so_far;
      unread = subst (λ n. IsUnread n (view x) r) (many_so now ∙ sym many) unread;
    }

pub read_at : {X : Type 0} (view : X → List ℕ) (xs : List X) (i : ℕ) (d : X) (now new : List code.Tree) → i < length xs
    → AreRead 0 (map view (take i xs)) (trees_of now) → AddsTree now (view (get_or xs i d)) new → AreRead 0 (map view (take (i + 1) xs)) (trees_of new)
read_at view xs i d now new low so_far adds = read_on view xs i (get_or xs i d) now new low (get_or_default xs i d (get_or xs i d) low) so_far adds

pub stopped_at : {X : Type 0} (view : X → List ℕ) (xs : List X) (i : ℕ) (d : X) (now : List code.Tree) (e : CompileError) → i < length xs
    → AreRead 0 (map view (take i xs)) (trees_of now) → Tells e (IsUnread (length now) (view (get_or xs i d))) → Tells e (StopsAtFile (map view xs))
stopped_at view xs i d now e low so_far told =
    told_as e (IsUnread (length now) (view (get_or xs i d))) (StopsAtFile (map view xs))
    (λ r unread. stops_at view xs i (get_or xs i d) now r low (get_or_default xs i d (get_or xs i d) low) so_far unread) told

pub all_read : {X : Type 0} (view : X → List ℕ) (xs : List X) (i : ℕ) (now : List code.Tree) → length xs ≤ i → AreRead 0 (map view (take i xs)) (trees_of now)
    → AreRead 0 (map view xs) (trees_of now)
all_read view xs i now past so_far = subst (λ k. AreRead 0 (map view k) (trees_of now)) (take_all i xs past) so_far

pub adds_tree : (number : ℕ) (old new : List code.Tree) (text : List ℕ) (tree : code.Tree) → number ≡ length old → IsRead number text (tree_of tree) → new ≡ old ++ tree ∷ [] → AddsTree old text new
adds_tree number old new text tree is read put =
    record { tree = tree_of tree; read = subst (λ n. IsRead n text (tree_of tree)) is read; added = ap trees_of put ∙ map-append tree_of old (tree ∷ []) }

-- ---- what holds of trees that were read

pub right_trees : (texts : List (List ℕ)) (trees : List Tree) → AreRead 0 texts trees → AreRight trees
right_trees texts trees read =
    let nothing = nothing_wrong 0 texts trees read in
    record { of_files = are_of_files 0 texts trees read; values = values_apart 0 texts trees read; numbers = all_values_fit trees nothing; members = all_members_named trees nothing }
