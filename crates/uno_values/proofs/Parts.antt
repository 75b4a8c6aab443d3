-- The parts of a value as plain trees.
use Rattle.std.proofs.Common.{◌≡◌, ℕ, suc, ◌+◌, ◌<◌, ◌≤◌, min, max, arith, List, [], ◌∷◌, ◌++◌, length, drop, get_or, refl, sym, ap, ◌∙◌}
use Rattle.std.proofs.lemmas.List.{append_assoc, drop_more}
use Rattle.uno_model.specs.Values.{Ref, refs, refs_in, depth, depth_in}
use Rattle.uno_model.specs.Weights.{count}
use Rattle.uno_values.specs.declared.value.Value.{Value}
use Rattle.uno_values.specs.Values.{plain_of, plains_of}

-- they are as many
pub count_of : (vs : List Value) → count (plains_of vs) ≡ length vs
count_of [] = refl
count_of (v ∷ vs) = ap suc (count_of vs)

-- a part and those behind it
pub part_at : {X : Type 0} (xs : List X) (i : ℕ) (x : X) → i < length xs → x ≡ get_or xs i x → drop i xs ≡ x ∷ drop (i + 1) xs
part_at xs i x within is = drop_more xs i x within ∙ ap (λ y. y ∷ drop (i + 1) xs) (sym is)

-- the references of one part more
pub refs_more : (vs : List Value) (i : ℕ) (v : Value) (found more whole : List Ref) → i < length vs → v ≡ get_or vs i v → more ≡ found ++ refs (plain_of v)
    → found ++ refs_in (plains_of (drop i vs)) ≡ whole → more ++ refs_in (plains_of (drop (i + 1) vs)) ≡ whole
unfolding refs_in
refs_more vs i v found more whole within is pushed all =
    let here = rw (part_at vs i v within is) at all in
    rw (pushed, append_assoc found (refs (plain_of v)) (refs_in (plains_of (drop (i + 1) vs)))) here

-- the greatest depth up to a limit, with one part more
pub deeper : (limit : ℕ) (vs : List Value) (i : ℕ) (v : Value) (deepest next one whole : ℕ) → i < length vs → v ≡ get_or vs i v
    → one ≡ min (depth (plain_of v)) limit → next ≡ max deepest one → deepest ≤ limit
    → min (max deepest (depth_in (plains_of (drop i vs)))) limit ≡ whole → (min (max next (depth_in (plains_of (drop (i + 1) vs)))) limit ≡ whole) × (next ≤ limit)
unfolding depth_in
deeper limit vs i v deepest next one whole within is one_is next_is low all =
    let here = rw (part_at vs i v within is) at all in
    (omega arith, omega arith)
