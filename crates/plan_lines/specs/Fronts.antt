-- Terms and paths that are read one behind the other.
use Rattle.std.specs.Prelude.{ℕ, List, [], ◌∷◌, ◌++◌, Option, None, Some}
use Rattle.plan_model.specs.Lines.{Term, Terms, more}

unfoldable pub in_fronts : List Term → Terms → Terms
in_fronts [] us = us
in_fronts (t ∷ ts) us = more t (in_fronts ts us)

-- terms in front of those that are read
abbrev pub behind_fronts : List Term → Option (Terms × List ℕ) → Option (Terms × List ℕ)
behind_fronts ts None = None
behind_fronts ts (Some x) = Some (in_fronts ts x.0, x.1)

-- paths in front of those that are read
abbrev pub behind_paths : List (List ℕ) → Option (List (List ℕ)) → Option (List (List ℕ))
behind_paths ps None = None
behind_paths ps (Some qs) = Some (ps ++ qs)
