-- Types as code has them before they are made: what stands below all sequences, and how many.
use Rattle.std.specs.Prelude.{ℕ, List, Option, option_map}
use Rattle.idl_meant.specs.Owning.{owner_at}
use Rattle.idl_meant.specs.declared.shapes.Leaf.{Leaf}
use Rattle.idl_meant.specs.declared.shapes.Leaf.TheVariants as leaf
use Rattle.idl_meant.specs.declared.shapes.Shape.{Shape}
use Rattle.idl_meaning_model.specs.Meaning.{simple_meant}
use Rattle.idl_names.specs.Paths.{Parts}
use Rattle.idl_names.specs.Standing.{name_at}
use Rattle.idl_names.specs.declared.declaration.Declared.{Declared}
use Rattle.idl_trees.specs.Trees.{declaration_of}
use Rattle.idl_trees.specs.Types.{simple_of}
use Rattle.idl_types.specs.Kinds.{leaf_if}
use Rattle.registry_reading_model.specs.Kinds.{sequences}
use Rattle.uno_model.specs.Kinds.{Kind}
use Rattle.uno_model.specs.Kinds as kd

-- the type at the end of a chain of typedefs
abbrev pub end_kind : List Parts → List Declared → List (Option ℕ) → ℕ → Kind
end_kind paths all owners n = leaf_if (name_at paths n) (option_map (λ d. declaration_of d.body.now) (owner_at all owners n))

abbrev pub leaf_kind : List Parts → List Declared → List (Option ℕ) → Leaf → Kind
leaf_kind paths all owners (leaf.Simple s) = simple_meant (simple_of s)
leaf_kind paths all owners (leaf.End n) = end_kind paths all owners n
leaf_kind paths all owners (leaf.Endless n) = kd.struct (name_at paths n)

abbrev pub shape_kind : List Parts → List Declared → List (Option ℕ) → Shape → Kind
shape_kind paths all owners s = sequences s.sequences (leaf_kind paths all owners s.leaf)
