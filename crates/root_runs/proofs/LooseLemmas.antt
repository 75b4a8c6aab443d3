-- What is loose, and the other parts of a run that change with it.
use Rattle.std.proofs.Common.{◌≡◌, ◌<◌, List, [], ◌∷◌, ◌++◌, drop, get_or, length, map, refl, sym, ap, ◌∙◌}
use Rattle.std.specs.List.{flat_map}
use Rattle.std.proofs.lemmas.List.{flat_map_more, nil_from_length}
use Rattle.plan_model.specs.Frames.{Variable}
use Rattle.plan_model.specs.Roots.{Run, loosened}
use Rattle.uno_model.specs.Values.{Ref, Plain, refs}
use Rattle.uno_values.proofs.Parts.{part_at}
use Rattle.uno_values.specs.References.{ref_of}
use Rattle.uno_values.specs.Values.{plain_of}
use Rattle.uno_values.specs.declared.reference.Reference.{Reference}
use Rattle.uno_values.specs.declared.value.Value.{Value}

-- the references of values, behind others
abbrev pub loose_behind : List Ref → List Value → List Ref
loose_behind fs xs = fs ++ flat_map (λ x. refs (plain_of x)) xs

-- one value more
pub looser : (fs : List Ref) (old new : List Value) (v : Value) (x : Plain) → new ≡ old ++ v ∷ [] → plain_of v ≡ x → loose_behind fs new ≡ loosened x (loose_behind fs old)
looser fs old new v x pushed is = rw (pushed, ← is) (sym (flat_map_more (λ y. refs (plain_of y)) fs old v))

-- other loose references
pub with_others_loose : (r : Run) (rs ss : List Ref) → rs ≡ ss → record r { loose = rs } ≡ record r { loose = ss }
with_others_loose r rs ss is = ap (λ ts. record r { loose = ts }) is

-- other variables too
pub with_others : (r : Run) (xs ys : List Variable) (rs ss : List Ref) → xs ≡ ys → rs ≡ ss → record r { variables = xs; loose = rs } ≡ record r { variables = ys; loose = ss }
with_others r xs ys rs ss same is = ap (λ zs. record r { variables = zs; loose = rs }) same ∙ ap (λ ts. record r { variables = ys; loose = ts }) is

-- the references of the first loose value stand in front
pub opened : (old new : List Reference) (vs : List Value) (v : Value) → old ≡ [] → map ref_of new ≡ refs (plain_of v) → 0 < length vs → v ≡ get_or vs 0 v
    → loose_behind (map ref_of new) (drop 1 vs) ≡ loose_behind (map ref_of old) vs
opened old new vs v none is some first = rw (none, is) (sym (ap (flat_map (λ x. refs (plain_of x))) (part_at vs 0 v some first)))

-- nothing is loose
pub none_loose : (rs : List Reference) (vs : List Value) → length vs ≡ 0 → rs ≡ [] → loose_behind (map ref_of rs) vs ≡ []
none_loose rs vs none is = rw (is, nil_from_length vs none) refl
