-- A path from the outermost module on, of the identifiers of a name, means that name, wherever it stands.
use Rattle.std.proofs.Common.{◌≡◌, ℕ, ◌==◌, Bool, true, false, List, [], ◌∷◌, None, Some, refl, sym, ap, subst, if◌then◌else◌}
use Rattle.std.specs.Prelude.{unwrap_or}
use Rattle.std.proofs.lemmas.Bool.{eqb-true}
use Rattle.uno_model.specs.Names.{parts_of}
use Rattle.idl_model.specs.Trees.{Path}
use Rattle.idl_meaning_model.specs.Declarations.{Declared, dotted}
use Rattle.idl_meaning_model.specs.Meaning.{name_meant}
use Rattle.idl_meaning_model.specs.Scopes.{full_names, is_entity, entity_named}
use Rattle.canonical_laws.specs.Written.{WritesName}

-- ---- the parts of a name

-- a name has one part at least
parts_begin : (name : List ℕ) → (part : List ℕ) × (parts : List (List ℕ)) × (parts_of name ≡ part ∷ parts)
unfolding parts_of
parts_begin [] = ([], [], refl)
parts_begin (c ∷ cs) = let rest = parts_begin cs in by_test (c == 46) refl rest.0 rest.1 rest.2
  where
    by_test : (b : Bool) → (c == 46) ≡ b → (part : List ℕ) (parts : List (List ℕ)) → parts_of cs ≡ part ∷ parts
        → (first : List ℕ) × (others : List (List ℕ)) × (parts_of (c ∷ cs) ≡ first ∷ others)
    by_test true point part parts is = ([], part ∷ parts, rw (point, is) refl)
    by_test false point part parts is = (c ∷ part, parts, rw (point, is) refl)

-- they are the name where they are joined by points
pub dotted_parts : (name : List ℕ) → dotted (parts_of name) ≡ name
unfolding parts_of dotted
dotted_parts [] = refl
dotted_parts (c ∷ cs) = let rest = parts_begin cs in by_test (c == 46) refl rest.0 rest.1 rest.2 (dotted_parts cs)
  where
    joined : (part : List ℕ) (parts : List (List ℕ)) → dotted (part ∷ parts) ≡ cs → dotted ((c ∷ part) ∷ parts) ≡ c ∷ cs
    joined part [] is = ap (λ x. c ∷ x) is
    joined part (q ∷ qs) is = ap (λ x. c ∷ x) is

    by_test : (b : Bool) → (c == 46) ≡ b → (part : List ℕ) (parts : List (List ℕ)) → parts_of cs ≡ part ∷ parts → dotted (parts_of cs) ≡ cs
        → dotted (parts_of (c ∷ cs)) ≡ c ∷ cs
    by_test true point part parts is rest =
        let behind : dotted (part ∷ parts) ≡ cs = subst (λ ps. dotted ps ≡ cs) is rest in
        rw (point, is) (subst (λ d. 46 ∷ dotted (part ∷ parts) ≡ d ∷ cs) (sym (eqb-true c 46 point)) (ap (λ x. 46 ∷ x) behind))
    by_test false point part parts is rest = rw (point, is) (joined part parts (subst (λ ps. dotted ps ≡ cs) is rest))

-- ---- what a path means

module _ (ds : List Declared) (modules : List (List ℕ)) (path : Path) (name : List ℕ) (writes : WritesName path name) where
  tried : full_names modules path ≡ name ∷ []
  unfolding full_names
  tried = rw (writes.absolute, writes.parts, dotted_parts name) refl

  pub name_is : name_meant ds modules path ≡ name
  unfolding name_meant entity_named
  name_is = rw (tried, writes.parts, dotted_parts name) (by_test (is_entity ds name))
    where
      by_test : (b : Bool) → unwrap_or (if b then Some name else None) name ≡ name
      by_test true = refl
      by_test false = refl

  pub entity_is : is_entity ds name ≡ true → entity_named ds modules path ≡ Some name
  unfolding entity_named
  entity_is there = rw (tried, there) refl
