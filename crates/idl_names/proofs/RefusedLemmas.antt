-- What is refused in one more declaration.
use Rattle.std.proofs.Common.{◌≡◌, sym, ap, ◌∙◌, ℕ, ◌+◌, ◌<◌, List, [], ◌∷◌, ◌++◌, map, length, take, get_or, append_assoc, append-nil}
use Rattle.std.specs.List.{flat_map}
use Rattle.std.proofs.lemmas.List.{map-append}
use Rattle.std.proofs.lemmas.Option.{get_or_from_slice_get, slice_get-get_or}
use Rattle.idl_meaning_model.specs.Declarations as model
use Rattle.idl_meaning_model.specs.NameFaults.{NameFault, refused_types}
use Rattle.idl_meaning_model.specs.Uses.{floats, types_in}
use Rattle.idl_model.specs.Places.{Place}
use Rattle.idl_names.specs.Collected.{declared_of}
use Rattle.idl_names.specs.Faults.{AddsFaults, all_faults_of, fault_of, refused_at}
use Rattle.idl_names.specs.Paths.{Parts}
use Rattle.idl_names.specs.declared.declaration.Declared.{Declared}
use Rattle.idl_names.specs.declared.fault.Fault.{Fault}
use Rattle.idl_names.proofs.UsedLemmas.{one_taken, one_joined}
use Rattle.idl_trees.specs.Trees.{declaration_of}

one_behind : (old now new xs ys : List (Place × NameFault)) → now ≡ old ++ xs → new ≡ now ++ ys → new ≡ old ++ (xs ++ ys)
one_behind old now new xs ys first second = second ∙ ap (λ k. k ++ ys) first ∙ append_assoc old xs ys

pub none_refused : (paths : List Parts) (old : List Fault) → AddsFaults old (refused_types (map (declared_of paths) [])) old
unfolding refused_types
none_refused paths old = sym (append-nil (all_faults_of old))

pub each_refused : (paths : List Parts) (xs : List Declared) (i : ℕ) (d : Declared) (old now new : List Fault) → i < length xs → d ≡ get_or xs i d
    → AddsFaults old (refused_types (map (declared_of paths) (take i xs))) now → AddsFaults now (map refused_at (flat_map floats (types_in (declaration_of d.body.now)))) new
    → AddsFaults old (refused_types (map (declared_of paths) (take (i + 1) xs))) new
unfolding refused_types
each_refused paths xs i d old now new low is so_far added =
    let before = flat_map (λ (e : model.Declared). flat_map floats (types_in e.body)) (map (declared_of paths) (take i xs)) in
    let here = flat_map floats (types_in (declaration_of d.body.now)) in
    one_behind (all_faults_of old) (all_faults_of now) (all_faults_of new) (map refused_at before) (map refused_at here) so_far added
    ∙ ap (λ k. all_faults_of old ++ k) (sym (ap (map refused_at) (one_joined (declared_of paths) (λ (e : model.Declared). flat_map floats (types_in e.body)) xs i d low is)
    ∙ map-append refused_at before here))

read_same : {X : Type 0} (xs : List X) (i : ℕ) (d : X) → i < length xs → get_or xs i d ≡ get_or xs i (get_or xs i d)
read_same xs i d low = sym (get_or_from_slice_get xs i (get_or xs i d) (get_or xs i d) (slice_get-get_or xs i d low))

pub each_place : {X : Type 0} (view : X → Place) (xs : List X) (i : ℕ) (d : X) (old now new : List Fault) (f : Fault) → i < length xs
    → AddsFaults old (map refused_at (map view (take i xs))) now → new ≡ now ++ f ∷ [] → fault_of f ≡ refused_at (view (get_or xs i d))
    → AddsFaults old (map refused_at (map view (take (i + 1) xs))) new
each_place view xs i d old now new f low so_far pushed same =
    let before = map view (take i xs) in
    one_behind (all_faults_of old) (all_faults_of now) (all_faults_of new) (map refused_at before) (fault_of f ∷ []) so_far (ap all_faults_of pushed ∙ map-append fault_of now (f ∷ []))
    ∙ ap (λ k. all_faults_of old ++ (map refused_at before ++ k ∷ [])) same
    ∙ ap (λ k. all_faults_of old ++ k) (sym (ap (map refused_at) (one_taken view xs i (get_or xs i d) low (read_same xs i d low))
    ∙ map-append refused_at before (view (get_or xs i d) ∷ [])))
