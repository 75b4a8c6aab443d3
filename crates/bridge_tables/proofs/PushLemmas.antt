-- What a loop pushes, one value after the other.
use Rattle.std.proofs.Common.{◌≡◌, ℕ, ◌+◌, ◌<◌, List, [], ◌∷◌, ◌++◌, length, map, take, drop, get_or, append_assoc, sym, ap, ◌∙◌}
use Rattle.std.proofs.lemmas.List.{map-append, take_more, at_drop_more}
use Rattle.uno_model.specs.Values.{Ref, refs}
use Rattle.uno_values.specs.Values.{plain_of}
use Rattle.uno_values.specs.declared.value.Value.{Value}
use Rattle.bridge_model.specs.References.{refs_of_values}

-- the references of one value more stand before those of the other values
pub refs_pushed : (xs : List Value) (i : ℕ) (x : Value) (old new whole : List Ref) → i < length xs → x ≡ get_or xs i x → new ≡ old ++ refs (plain_of x)
    → old ++ refs_of_values (map plain_of (drop i xs)) ≡ whole → new ++ refs_of_values (map plain_of (drop (i + 1) xs)) ≡ whole
unfolding refs_of_values
refs_pushed xs i x old new whole within is here all =
    let rest = refs_of_values (map plain_of (drop (i + 1) xs)) in
    ap (λ rs. rs ++ rest) here ∙ append_assoc old (refs (plain_of x)) rest ∙ ap (λ y. old ++ (refs (plain_of y) ++ rest)) is
    ∙ sym (at_drop_more (λ ys. old ++ refs_of_values (map plain_of ys)) xs i x within)
    ∙ all

-- what was made of the first so many is pushed
pub made_more : {A B C D : Type 0} (f : A → D) (g : B → C) (h : C → D) (old new : List A) (y : A) (xs : List B) (i : ℕ) (x : B) → i < length xs → x ≡ get_or xs i x → f y ≡ h (g x)
    → new ≡ old ++ y ∷ [] → map f old ≡ map h (map g (take i xs)) → map f new ≡ map h (map g (take (i + 1) xs))
made_more f g h old new y xs i x within is one pushed all =
    ap (map f) pushed ∙ map-append f old (y ∷ []) ∙ (λ j. all j ++ one j ∷ [])
    ∙ ap (λ z. map h (map g (take i xs)) ++ h (g z) ∷ []) is
    ∙ sym (map-append h (map g (take i xs)) (g (get_or xs i x) ∷ []))
    ∙ sym (ap (map h) (map-append g (take i xs) (get_or xs i x ∷ [])))
    ∙ sym (ap (λ zs. map h (map g zs)) (take_more xs i x within))
