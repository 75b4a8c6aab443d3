-- Paths that are opened behind those that are there.
use Rattle.std.proofs.Common.{◌≡◌, refl, sym, ap, subst, ◌∙◌, ℕ, ◌+◌, ◌<◌, ◌≤◌, List, [], ◌∷◌, ◌++◌, map, length, take, get_or, slice_get, Some, append_assoc, append-nil}
use Rattle.std.specs.Borrow.{Bor}
use Rattle.std.specs.List.{AllByRecursion, flat_map}
use Rattle.std.proofs.lemmas.List.{take_all, map-append}
use Rattle.std.proofs.lemmas.Option.{get_or_from_slice_get, slice_get-get_or, slice_get_within}
use Rattle.idl_meaning_model.specs.Declarations as model
use Rattle.idl_model.specs.Trees.{Id}
use Rattle.idl_names.specs.Collected.{declared_of, HasNumbers, Keep}
use Rattle.idl_names.specs.Opened.{AreAt, HasOpened, Numbers, behind_all, built_in_exceptions, built_in_interfaces, own_path, value_ids, value_paths}
use Rattle.idl_names.specs.Paths.{Parts, within, Opens}
use Rattle.idl_names.specs.declared.declaration.Declared.{Declared}
use Rattle.idl_names.specs.declared.opening.Opened.{Opened}
use Rattle.idl_names.proofs.CollectedLemmas.{kept_read, kept_both, opened_keeps, numbers_kept, told_kept}
use Rattle.idl_names.proofs.MarkLemmas.{at_index}
use Rattle.idl_names.proofs.UsedLemmas.{one_taken, one_joined}
use Rattle.idl_trees.specs.Trees.{declaration_of}
use Rattle.idl_trees.specs.declared.declaration.Declaration.{Declaration}

-- ---- numbers of paths

at_kept : (a b : List Parts) (ns : List ℕ) (ps : List Parts) → Keep a b → AreAt a ns ps → AreAt b ns ps
unfolding AreAt
at_kept a b [] [] keep at = tt
at_kept a b [] (p ∷ ps) keep at = at
at_kept a b (n ∷ ns) [] keep at = at
at_kept a b (n ∷ ns) (p ∷ ps) keep at = (keep n (slice_get_within a n p at.0) ∙ at.0, at_kept a b ns ps keep at.1)

at_both : (a : List Parts) (ns ms : List ℕ) (ps qs : List Parts) → AreAt a ns ps → AreAt a ms qs → AreAt a (ns ++ ms) (ps ++ qs)
unfolding AreAt
at_both a [] ms [] qs first second = second
at_both a [] ms (p ∷ ps) qs first second = absurd first
at_both a (n ∷ ns) ms [] qs first second = absurd first
at_both a (n ∷ ns) ms (p ∷ ps) qs first second = (first.0, at_both a ns ms ps qs first.1 second)

-- a number is one of them where its path is one of these
pub at_low : (a : List Parts) (ns : List ℕ) (ps : List Parts) → AreAt a ns ps → AllByRecursion (λ n. n < length a) ns
unfolding AreAt
at_low a [] ps at = tt
at_low a (n ∷ ns) [] at = absurd at
at_low a (n ∷ ns) (p ∷ ps) at = (slice_get_within a n p at.0, at_low a ns ps at.1)

-- ---- what is opened

pub numbers_none : (a : List Parts) (ns : List ℕ) → Numbers a ns [] a ns
unfolding AreAt
numbers_none a ns = record { fresh = []; items = sym (append-nil ns); kept = λ n low. refl; told = tt }

pub numbers_both : (a b c : List Parts) (ns ms ks : List ℕ) (ps qs : List Parts) → Numbers a ns ps b ms → Numbers b ms qs c ks → Numbers a ns (ps ++ qs) c ks
numbers_both a b c ns ms ks ps qs one two =
    record {
      fresh = one.fresh ++ two.fresh;
      items = two.items ∙ ap (λ k. k ++ two.fresh) one.items ∙ append_assoc ns one.fresh two.fresh;
      kept = kept_both a b c one.kept two.kept;
      told = at_both c one.fresh two.fresh ps qs (at_kept b c one.fresh ps two.kept one.told) two.told;
    }

-- a path that is opened, and its number
pub numbers_one : (a c : List Parts) (ns ks : List ℕ) (n : ℕ) (p : Parts) → Keep a c → slice_get c n ≡ Some p → ks ≡ ns ++ n ∷ [] → Numbers a ns (p ∷ []) c ks
unfolding AreAt
numbers_one a c ns ks n p keep at items = record { fresh = n ∷ []; items = items; kept = keep; told = (at, tt) }

pub numbers_opened : (a c : List Parts) (ns ks : List ℕ) (n : ℕ) (p : Parts) → Opens a p c → slice_get c n ≡ Some p → ks ≡ ns ++ n ∷ [] → Numbers a ns (p ∷ []) c ks
numbers_opened a c ns ks n p opens at items = numbers_one a c ns ks n p (opened_keeps a p c opens) at items

-- ---- names behind one path, one after the other

pub next_name : {X : Type 0} (view : X → Id) (a b c : List Parts) (ns ms ks : List ℕ) (own : ℕ) (xs : List X) (i : ℕ) (x : X) (name : List ℕ) → own < length a → i < length xs → x ≡ get_or xs i x
    → name ≡ (view x).name → Numbers a ns (behind_all (get_or a own []) (map view (take i xs))) b ms → Numbers b ms (within b (own, name) ∷ []) c ks
    → Numbers a ns (behind_all (get_or a own []) (map view (take (i + 1) xs))) c ks
next_name view a b c ns ms ks own xs i x name low less is said so_far one =
    let path = get_or a own [] in
    let behind : Id → Parts = λ j. path ++ j.name ∷ [] in
    subst (λ more. Numbers a ns more c ks) (sym (ap (map behind) (one_taken view xs i x less is) ∙ map-append behind (map view (take i xs)) (view x ∷ [])))
    (numbers_both a b c ns ms ks (behind_all path (map view (take i xs))) (behind (view x) ∷ []) so_far
    (subst (λ (p : Parts). Numbers b ms (p ∷ []) c ks) (ap (λ (q : Parts). q ++ name ∷ []) (kept_read a b own so_far.kept low) ∙ ap (λ (z : List ℕ). path ++ z ∷ []) said) one))

-- ---- one declaration after the other

pub no_values : (a : List Parts) (ns : List ℕ) → Numbers a ns (value_paths []) a ns
unfolding value_paths
no_values a ns = numbers_none a ns

own_read : (a : List Parts) (d : Declared) → HasNumbers a d → get_or a d.path [] ≡ own_path (declared_of a d)
own_read a d has = get_or_from_slice_get a d.path (own_path (declared_of a d)) [] has.own

abbrev values_of : model.Declared → List Parts
values_of d = behind_all (own_path d) (value_ids d.body)

pub next_values : (a b c : List Parts) (ns ms ks : List ℕ) (xs : List Declared) (i : ℕ) (x : Declared) → AllByRecursion (HasNumbers a) xs → i < length xs → x ≡ get_or xs i x
    → Numbers a ns (value_paths (map (declared_of a) (take i xs))) b ms
    → Numbers b ms (behind_all (get_or b x.path []) (value_ids (declaration_of x.body.now))) c ks
    → Numbers a ns (value_paths (map (declared_of a) (take (i + 1) xs))) c ks
unfolding value_paths
next_values a b c ns ms ks xs i x has less is so_far one =
    let here = at_index (HasNumbers a) xs i x less is has in
    let ids = value_ids (declaration_of x.body.now) in
    let same : get_or b x.path [] ≡ own_path (declared_of a x) = kept_read a b x.path so_far.kept (slice_get_within a x.path (own_path (declared_of a x)) here.own) ∙ own_read a x here in
    subst (λ more. Numbers a ns more c ks) (sym (one_joined (declared_of a) values_of xs i x less is))
    (numbers_both a b c ns ms ks (flat_map values_of (map (declared_of a) (take i xs))) (values_of (declared_of a x)) so_far
    (subst (λ (p : Parts). Numbers b ms (behind_all p ids) c ks) same one))

pub numbers_at : (a b : List Parts) (x : Declared) (xs : List Declared) (i : ℕ) → Keep a b → AllByRecursion (HasNumbers a) xs → i < length xs → x ≡ get_or xs i x → HasNumbers b x
numbers_at a b x xs i keep has less is = numbers_kept a b x keep (at_index (HasNumbers a) xs i x less is has)

-- ---- one path, identifier by identifier

-- the path of these identifiers has this number
pub record OpensTo (old : List Parts) (names : Parts) (new : List Parts) (number : ℕ) : Type 0 where
  pub kept : Keep old new
  pub at : slice_get new number ≡ Some names

pub opens_none : (a : List Parts) → slice_get a 0 ≡ Some [] → OpensTo a [] a 0
opens_none a first = record { kept = λ n low. refl; at = first }

pub opens_low : {a b : List Parts} {names : Parts} {n : ℕ} → OpensTo a names b n → n < length b
opens_low {b = b} {names = names} {n = n} to = slice_get_within b n names to.at

pub opens_next : (a b c : List Parts) (names : List (Bor (List ℕ))) (i : ℕ) (x : Bor (List ℕ)) (n m : ℕ) → i < length names → x ≡ get_or names i x
    → OpensTo a (map (λ name. name.now) (take i names)) b n → Opens b (within b (n, x.now)) c → slice_get c m ≡ Some (within b (n, x.now))
    → OpensTo a (map (λ name. name.now) (take (i + 1) names)) c m
opens_next a b c names i x n m low is to opens at =
    record {
      kept = kept_both a b c to.kept (opened_keeps b (within b (n, x.now)) c opens);
      at =
          at
          ∙ ap Some (ap (λ (p : Parts). p ++ x.now ∷ []) (get_or_from_slice_get b n (map (λ name. name.now) (take i names)) [] to.at) ∙ sym (one_taken (λ (name : Bor (List ℕ)). name.now) names i x low is));
    }

pub opens_read : (a b c : List Parts) (names : List (Bor (List ℕ))) (i : ℕ) (d : Bor (List ℕ)) (n m : ℕ) → i < length names
    → OpensTo a (map (λ name. name.now) (take i names)) b n → Opens b (within b (n, (get_or names i d).now)) c → slice_get c m ≡ Some (within b (n, (get_or names i d).now))
    → OpensTo a (map (λ name. name.now) (take (i + 1) names)) c m
opens_read a b c names i d n m low to opens at =
    opens_next a b c names i (get_or names i d) n m low (sym (get_or_from_slice_get names i (get_or names i d) (get_or names i d) (slice_get-get_or names i d low))) to opens at

pub opens_all : (a b : List Parts) (names : List (Bor (List ℕ))) (i n : ℕ) (ns ks : List ℕ) → length names ≤ i → OpensTo a (map (λ name. name.now) (take i names)) b n → ks ≡ ns ++ n ∷ []
    → Numbers a ns (map (λ name. name.now) names ∷ []) b ks
opens_all a b names i n ns ks end to items =
    numbers_one a b ns ks n (map (λ name. name.now) names) to.kept
    (to.at ∙ ap (λ (xs : List (Bor (List ℕ))). Some (map (λ name. name.now) xs)) (take_all i names end)) items

-- the outermost stays
pub first_kept : (a b : List Parts) → slice_get a 0 ≡ Some [] → Keep a b → slice_get b 0 ≡ Some []
first_kept a b first keep = keep 0 (slice_get_within a 0 [] first) ∙ first

-- ---- names behind one path, as code has them

pub next_of : {X Y : Type 0} (view : X → Y) (id : Y → Id) (a b c : List Parts) (ns ms ks : List ℕ) (own : ℕ) (xs : List X) (i : ℕ) (x : X) (name : List ℕ) → own < length a → i < length xs
    → x ≡ get_or xs i x → name ≡ (id (view x)).name → Numbers a ns (behind_all (get_or a own []) (map id (map view (take i xs)))) b ms → Numbers b ms (within b (own, name) ∷ []) c ks
    → Numbers a ns (behind_all (get_or a own []) (map id (map view (take (i + 1) xs)))) c ks
next_of view id a b c ns ms ks own xs i x name low less is said so_far one =
    subst (λ (js : List Id). Numbers a ns (behind_all (get_or a own []) js) c ks) (map_twice view id (take (i + 1) xs))
    (next_name (λ y. id (view y)) a b c ns ms ks own xs i x name low less is said
    (subst (λ (js : List Id). Numbers a ns (behind_all (get_or a own []) js) b ms) (sym (map_twice view id (take i xs))) so_far) one)
  where
    map_twice : {U V W : Type 0} (f : U → V) (g : V → W) (us : List U) → map (λ u. g (f u)) us ≡ map g (map f us)
    map_twice f g [] = refl
    map_twice f g (u ∷ us) = ap (λ k. g (f u) ∷ k) (map_twice f g us)

pub all_of : {X Y : Type 0} (view : X → Y) (id : Y → Id) (a b : List Parts) (ns ms : List ℕ) (own : ℕ) (xs : List X) (i : ℕ) → length xs ≤ i
    → Numbers a ns (behind_all (get_or a own []) (map id (map view (take i xs)))) b ms → Numbers a ns (behind_all (get_or a own []) (map id (map view xs))) b ms
all_of view id a b ns ms own xs i end so_far = subst (λ ys. Numbers a ns (behind_all (get_or a own []) (map id (map view ys))) b ms) (take_all i xs end) so_far

-- ---- all that is opened

fresh_alone : (a b : List Parts) (ks : List ℕ) (ps : List Parts) (ns : List ℕ) → ns ≡ [] → Numbers a ns ps b ks → AreAt b ks ps
fresh_alone a b ks ps ns none opened = subst (λ ms. AreAt b ms ps) (sym (opened.items ∙ ap (λ k. k ++ opened.fresh) none)) opened.told

pub has_opened : (a b c d : List Parts) (all : List Declared) (no_faces no_exceptions no_values : List ℕ) (opened : Opened) → AllByRecursion (HasNumbers a) all
    → no_faces ≡ [] → no_exceptions ≡ [] → no_values ≡ []
    → Numbers a no_faces built_in_interfaces b opened.interfaces.items → Numbers b no_exceptions built_in_exceptions c opened.exceptions.items
    → Numbers c no_values (value_paths (map (declared_of c) all)) d opened.values.items → HasOpened d (map (declared_of a) all) opened
has_opened a b c d all no_faces no_exceptions no_values opened numbers first second third one two three =
    let keep = kept_both a b c one.kept two.kept in
    record {
      interfaces = at_kept b d opened.interfaces.items built_in_interfaces (kept_both b c d two.kept three.kept) (fresh_alone a b opened.interfaces.items built_in_interfaces no_faces first one);
      exceptions = at_kept c d opened.exceptions.items built_in_exceptions three.kept (fresh_alone b c opened.exceptions.items built_in_exceptions no_exceptions second two);
      values =
          subst (λ ds. AreAt d opened.values.items (value_paths ds)) (told_kept a c all keep numbers)
          (fresh_alone c d opened.values.items (value_paths (map (declared_of c) all)) no_values third three);
    }

pub at_low_for : (a : List Parts) (count : ℕ) (ns : List ℕ) (ps : List Parts) → count ≡ length a → AreAt a ns ps → AllByRecursion (λ n. n < count) ns
at_low_for a count ns ps is at = subst (λ k. AllByRecursion (λ n. n < k) ns) (sym is) (at_low a ns ps at)

-- ---- by what a declaration is

pub no_values_in : (a : List Parts) (ns : List ℕ) (own : Parts) (body other : Declaration) → body ≡ other → value_ids (declaration_of other) ≡ [] → Numbers a ns (behind_all own (value_ids (declaration_of body))) a ns
no_values_in a ns own body other is none =
    subst (λ ids. Numbers a ns (behind_all own ids) a ns) (sym (ap (λ b. value_ids (declaration_of b)) is ∙ none)) (numbers_none a ns)
