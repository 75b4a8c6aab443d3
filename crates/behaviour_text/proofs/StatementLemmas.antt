-- The last statement of a method.
use Rattle.std.proofs.Common.{◌≡◌, false, List, [], ◌∷◌, ◌++◌, map, refl, sym, ap, ◌∙◌}
use Rattle.std.proofs.lemmas.List.{map-append}
use Rattle.plan_model.specs.LinePlaces.{ends_frame, last_ends}
use Rattle.plan_model.specs.Statements as s
use Rattle.plan_types.specs.Statements.{statement_of}
use Rattle.plan_types.specs.declared.statement.Statement as rust

more_before : (t u : s.Statement) (ts : List s.Statement) → last_ends (t ∷ (u ∷ ts)) ≡ last_ends (u ∷ ts)
unfolding last_ends
more_before t u ts = refl

alone : (t : s.Statement) → last_ends (t ∷ []) ≡ ends_frame t
unfolding last_ends
alone t = refl

last_of : (ts : List s.Statement) (t : s.Statement) → last_ends (ts ++ t ∷ []) ≡ ends_frame t
last_of [] t = alone t
last_of (u ∷ []) t = more_before u t [] ∙ alone t
last_of (u ∷ (v ∷ ts)) t = more_before u v (ts ++ t ∷ []) ∙ last_of (v ∷ ts) t

pub last_told : (all front : List rust.Statement) (t : rust.Statement) → all ≡ front ++ t ∷ [] → ends_frame (statement_of t) ≡ last_ends (map statement_of all)
last_told all front t is = sym (ap (λ ts. last_ends (map statement_of ts)) is ∙ ap last_ends (map-append statement_of front (t ∷ [])) ∙ last_of (map statement_of front) (statement_of t))

pub last_lacks : (all : List rust.Statement) → all ≡ [] → false ≡ last_ends (map statement_of all)
unfolding last_ends
last_lacks all none = rw none refl
