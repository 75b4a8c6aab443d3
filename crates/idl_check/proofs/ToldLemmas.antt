-- Declarations that are told one after the other.
use Rattle.std.proofs.Common.{◌≡◌, refl, sym, ap, subst, ◌∙◌, ℕ, zero, suc, ◌+◌, ◌≤◌, Bool, true, false, not, List, [], ◌∷◌, ◌++◌, map, length, take, slice_get, append-nil, Some, if◌then◌else◌, arith}
use Rattle.std.proofs.lemmas.List.{length-map, map-append, take_all}
use Rattle.std.proofs.lemmas.List.Elements.{filter-append}
use Rattle.std.specs.List.{All}
use Rattle.idl_check.specs.Asked.{told_among, told_of}
use Rattle.idl_check.specs.Meant.{entity_telling, telling_of}
use Rattle.idl_entities.specs.Telling.{Telling}
use Rattle.idl_meaning_model.specs.Declarations.{Declared, entities_declared, is_forward}
use Rattle.idl_meant.specs.Resolving.{all_in}
use Rattle.idl_meant.specs.Telling.{telling_in}
use Rattle.idl_meant.specs.declared.declaration.DeclarationMeaning.{DeclarationMeaning}
use Rattle.idl_names.specs.Collected.{declared_of}
use Rattle.idl_names.specs.declared.declaration.Declared as code
use Rattle.idl_names.specs.declared.resolving.Resolved.{Resolved}
use Rattle.idl_places.specs.Classes.{KeepsClasses}
use Rattle.registry_reading_model.proofs.CutLaws.{cut_alike}
use Rattle.uno_model.specs.TypeClasses.{class_of}
use Rattle.uno_model.proofs.Options.{none_some, same_some}

-- ---- one declaration

pub none_added : (ts : List Telling) (t : Telling) → is_forward t.declared.body ≡ true → ts ≡ ts ++ entity_telling t
none_added ts t forward = sym (append-nil ts) ∙ ap (λ (b : Bool). ts ++ (if not b then t ∷ [] else [])) (sym forward)

pub one_added : (old new : List DeclarationMeaning) (d : DeclarationMeaning) → new ≡ old ++ d ∷ [] → is_forward (telling_of d).declared.body ≡ false
    → map telling_of new ≡ map telling_of old ++ entity_telling (telling_of d)
one_added old new d put entity =
    ap (map telling_of) put ∙ map-append telling_of old (d ∷ []) ∙ ap (λ (b : Bool). map telling_of old ++ (if not b then telling_of d ∷ [] else [])) (sym entity)

-- ---- all of them

pub none_told : (ds : List Declared) (all : List DeclarationMeaning) → all ≡ [] → map telling_of all ≡ map (told_among ds) (entities_declared (take 0 ds))
unfolding entities_declared
none_told ds all nothing = ap (map telling_of) nothing

taken_one : {X Y : Type 0} (f : X → Y) (xs : List X) (n : ℕ) (x : X) → slice_get xs n ≡ Some x → take (suc n) (map f xs) ≡ take n (map f xs) ++ f x ∷ []
taken_one f [] n x at = absurd (none_some at)
taken_one f (y ∷ ys) zero x at = ap (λ z. f z ∷ []) (same_some at)
taken_one f (y ∷ ys) (suc n) x at = ap (λ zs. f y ∷ zs) (taken_one f ys n x at)

entities_more : (ds : List Declared) (d : Declared) → entities_declared (ds ++ d ∷ []) ≡ entities_declared ds ++ (if not (is_forward d.body) then d ∷ [] else [])
unfolding entities_declared
entities_more ds d = filter-append (λ (e : Declared). not (is_forward e.body)) ds (d ∷ [])

told_one : (ds : List Declared) (d : Declared) → map (told_among ds) (if not (is_forward d.body) then d ∷ [] else []) ≡ entity_telling (told_among ds d)
told_one ds d = by_test (is_forward d.body)
  where
    by_test : (b : Bool) → map (told_among ds) (if not b then d ∷ [] else []) ≡ (if not b then told_among ds d ∷ [] else [])
    by_test true = refl
    by_test false = refl

next_is : (n : ℕ) → suc n ≡ n + 1
next_is n = omega arith

pub one_more_told : (r s : Resolved) (n : ℕ) (d : code.Declared) (now new : List Telling) → s ≡ r → slice_get s.declared.items n ≡ Some d
    → now ≡ map (told_among (all_in r)) (entities_declared (take n (all_in r))) → new ≡ now ++ entity_telling (telling_in s d)
    → new ≡ map (told_among (all_in r)) (entities_declared (take (n + 1) (all_in r)))
one_more_told r s n d now new same at so_far more =
    let ds = all_in r in
    let it = declared_of r.paths d in
    let there : slice_get r.declared.items n ≡ Some d = subst (λ (q : Resolved). slice_get q.declared.items n ≡ Some d) same at in
    let told : new ≡ now ++ entity_telling (told_among ds it) = more ∙ ap (λ (q : Resolved). now ++ entity_telling (telling_in q d)) same in
    subst (λ k. new ≡ map (told_among ds) (entities_declared (take k ds))) (next_is n)
    (told ∙ ap (λ ts. ts ++ entity_telling (told_among ds it)) so_far
    ∙ ap (λ ts. map (told_among ds) (entities_declared (take n ds)) ++ ts) (sym (told_one ds it))
    ∙ sym (map-append (told_among ds) (entities_declared (take n ds)) (if not (is_forward it.body) then it ∷ [] else []))
    ∙ ap (map (told_among ds)) (sym (entities_more (take n ds) it) ∙ ap entities_declared (sym (taken_one (declared_of r.paths) r.declared.items n d there))))

pub all_told : (r : Resolved) (n : ℕ) (now : List Telling) → length r.declared.items ≤ n → now ≡ map (told_among (all_in r)) (entities_declared (take n (all_in r))) → now ≡ told_of (all_in r)
all_told r n now past so_far =
    let long = length-map r.declared.items (declared_of r.paths) in
    so_far ∙ ap (λ ds. map (told_among (all_in r)) (entities_declared ds)) (take_all n (all_in r) (omega (arith, past, long)))

-- ---- classes

pub all_keep_classes : (ds : List DeclarationMeaning) → All (λ d. KeepsClasses (telling_of d).kept) ds
all_keep_classes ds i d low = cut_alike class_of (λ k. refl)
