-- What is answered for own objects.
use Rattle.std.specs.Prelude.{ℕ, List, Option, None, Some}
use Rattle.uno_model.specs.Kinds.{Kind}
use Rattle.uno_model.specs.Kinds as kd
use Rattle.uno_model.specs.Values.{own, Plain}
use Rattle.uno_model.specs.Values as v

-- an own object under an interface, in an any of that type
abbrev pub any_of_own : (oid face : List ℕ) → Plain
any_of_own oid face = v.any (kd.interface face) (v.ref (own oid face))
