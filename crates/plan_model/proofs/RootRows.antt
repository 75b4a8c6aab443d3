-- Roots and what they let go.
use Rattle.std.proofs.Common.{◌≡◌, refl, ℕ, List, [], ◌∷◌, Some, codes}
use Rattle.uno_model.specs.Kinds as kd
use Rattle.uno_model.specs.Values.{Ref, Plain, null, peer, refs, refs_in}
use Rattle.uno_model.specs.Values as v
use Rattle.plan_model.specs.Roots.{loosened, next_loose, less_loose}

abbrev object : List ℕ → Ref
object oid = peer oid (codes "demo.XNode")

abbrev pair : Ref → Ref → Plain
pair x y = v.list (kd.interface (codes "demo.XNode")) (v.more (v.ref x) (v.more (v.ref y) v.none))

-- a value without references leaves none
null_row : loosened (v.ref null) [] ≡ []
unfolding refs
null_row = refl

-- the others leave theirs behind those that are loose already, from left to right
pair_row : loosened (pair (object (codes "C;2")) (object (codes "C;3"))) (object (codes "C;1") ∷ []) ≡ object (codes "C;1") ∷ (object (codes "C;2") ∷ (object (codes "C;3") ∷ []))
unfolding refs refs_in
pair_row = refl

half_row : loosened (pair null (object (codes "C;2"))) [] ≡ object (codes "C;2") ∷ []
unfolding refs refs_in
half_row = refl

-- one goes at a time
next_row : next_loose (object (codes "C;1") ∷ (object (codes "C;2") ∷ [])) ≡ Some (object (codes "C;1"))
next_row = refl

less_row : less_loose (object (codes "C;1") ∷ (object (codes "C;2") ∷ [])) ≡ object (codes "C;2") ∷ []
less_row = refl
