-- The flags of a property that are written in the order of the grammar are those of the property.
use Rattle.std.proofs.Common.{◌≡◌, ◌==◌, Bool, true, false, ◌&&◌, ◌||◌, List, [], ◌∷◌, ◌++◌, refl, sym, ap, ◌∙◌}
use Rattle.std.specs.List.{flat_map}
use Rattle.std.proofs.Math.Bool.{or-false}
use Rattle.std.proofs.lemmas.List.{append-nil}
use Rattle.uno_model.specs.declared.flags.Flags.{Flags}
use Rattle.idl_model.specs.Trees.{Flag}
use Rattle.idl_model.specs.Trees as tree
use Rattle.idl_meaning_model.specs.Meaning.{flag_number, has_flag, flags_meant}
use Rattle.canonical_laws.specs.Written.{flag_if, property_flags}

-- flags, each with whether it is written
abbrev table : Flags → List (Bool × Flag)
table f =
    (f.bound, tree.bound_flag) ∷
    ((f.constrained, tree.constrained_flag) ∷ ((f.maybeambiguous, tree.maybeambiguous_flag) ∷ ((f.maybedefault, tree.maybedefault_flag)
    ∷ ((f.maybevoid, tree.maybevoid_flag) ∷ ((f.optional, tree.optional_flag) ∷ ((f.readonly, tree.readonly_flag) ∷ ((f.removable, tree.removable_flag)
    ∷ ((f.transient, tree.transient_flag) ∷ []))))))))

abbrev written_of : List (Bool × Flag) → List Flag
written_of rows = flat_map (λ row. flag_if row.0 row.1) rows

in_table : (f : Flags) → property_flags f ≡ written_of (table f)
unfolding property_flags
in_table f = rw (append-nil (flag_if f.transient tree.transient_flag)) refl

-- whether a row of this flag is written
abbrev asked : Flag → List (Bool × Flag) → Bool
asked flag [] = false
asked flag (row ∷ rows) = ((flag_number row.1 == flag_number flag) && row.0) || asked flag rows

has_of_table : (flag : Flag) (rows : List (Bool × Flag)) → has_flag flag (written_of rows) ≡ asked flag rows
unfolding has_flag
has_of_table flag [] = refl
has_of_table flag (row ∷ rows) = by_row row.0 row.1 (has_of_table flag rows)
  where
    by_test : (b : Bool) → has_flag flag (written_of rows) ≡ asked flag rows → (b || has_flag flag (written_of rows)) ≡ ((b && true) || asked flag rows)
    by_test true rest = refl
    by_test false rest = rest

    none_of : (b : Bool) → ((b && false) || asked flag rows) ≡ asked flag rows
    none_of true = refl
    none_of false = refl

    by_row : (b : Bool) (other : Flag) → has_flag flag (written_of rows) ≡ asked flag rows
        → has_flag flag (flag_if b other ++ written_of rows) ≡ (((flag_number other == flag_number flag) && b) || asked flag rows)
    by_row true other rest = by_test (flag_number other == flag_number flag) rest
    by_row false other rest = rest ∙ sym (none_of (flag_number other == flag_number flag))

has : (flag : Flag) (f : Flags) (b : Bool) → asked flag (table f) ≡ (b || false) → has_flag flag (property_flags f) ≡ b
has flag f b is = ap (has_flag flag) (in_table f) ∙ has_of_table flag (table f) ∙ is ∙ or-false b

pub flags_are : (f : Flags) → flags_meant (property_flags f) ≡ f
unfolding flags_meant
flags_are f =
    rw (
      has tree.bound_flag f f.bound refl,
      has tree.constrained_flag f f.constrained refl,
      has tree.maybeambiguous_flag f f.maybeambiguous refl,
      has tree.maybedefault_flag f f.maybedefault refl,
      has tree.maybevoid_flag f f.maybevoid refl,
      has tree.optional_flag f f.optional refl,
      has tree.readonly_flag f f.readonly refl,
      has tree.removable_flag f f.removable refl,
      has tree.transient_flag f f.transient refl,
    ) refl
