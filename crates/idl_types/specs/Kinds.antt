-- The types that names stand for, by the numbers of their paths.
use Rattle.std.specs.Prelude.{ℕ, List, Option, None, Some, unwrap_or}
use Rattle.uno_model.specs.BuiltIn.{built_in}
use Rattle.uno_model.specs.Kinds.{Kind}
use Rattle.uno_model.specs.Kinds as kd
use Rattle.uno_model.specs.NamedTypes.{kind_of_entity}
use Rattle.uno_model.specs.Registry.{find_entity}
use Rattle.registry_reading_model.specs.Kinds.{sequences}
use Rattle.idl_meaning_model.specs.Meaning.{simple_meant}
use Rattle.idl_model.specs.Trees.{WrittenType, simple, named, sequence_of, Declaration}
use Rattle.idl_model.specs.Trees as tree
use Rattle.typedef_chains.specs.declared.step.End.{End}

-- the simple type below all sequences; below which a name stands, there is none
abbrev pub simple_in : WrittenType → Option Kind
simple_in (simple p s) = Some (simple_meant s)
simple_in (named path ts) = None
simple_in (sequence_of p t) = simple_in t

-- the type at the end of a chain; what is no type stands as a struct
abbrev pub leaf_of : List ℕ → Declaration → Kind
leaf_of name (tree.interface base members) = kd.interface name
leaf_of name (tree.exception base members) = kd.exception name
leaf_of name (tree.enum items) = kd.enum name
leaf_of name (tree.typedef t) = unwrap_or (simple_in t) (kd.struct name)
leaf_of name _ = kd.struct name

abbrev pub leaf_if : List ℕ → Option Declaration → Kind
leaf_if name None = unwrap_or (kind_of_entity name (find_entity name built_in)) (kd.struct name)
leaf_if name (Some body) = leaf_of name body

-- the type of a name, where its chain has this end, and the one at its end; what has no end stands as a struct
abbrev pub ended_type : List ℕ → (ℕ → Kind) → Option End → Kind
ended_type name leaf None = kd.struct name
ended_type name leaf (Some e) = sequences e.sum (leaf e.last)
