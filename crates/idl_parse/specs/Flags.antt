-- The flags beside the words `attribute` and `property`, and the flag that a word is.
use Rattle.std.specs.Prelude.{ℕ, List, ◌++◌, Option, None, Some, codes}
use Rattle.idl_model.specs.Grammar.{of_table, attribute_flags, property_flags, property_of}
use Rattle.idl_model.specs.Trees.{Flag, WrittenType, Id, ServiceMember}
use Rattle.idl_text_model.specs.Tokens.{Word}
use Rattle.idl_parse.specs.declared.flags.Flagged.{Flagged}
use Rattle.idl_parse.specs.declared.flags.Flagged.TheVariants as flagged

abbrev pub word_beside : Flagged → List ℕ
word_beside flagged.Attribute = codes "attribute"
word_beside flagged.Property = codes "property"

abbrev pub flags_beside : Flagged → List (List ℕ × Flag)
flags_beside flagged.Attribute = attribute_flags
flags_beside flagged.Property = property_flags

-- what the next word is in a table
abbrev pub in_table : {X : Type 0} → List (List ℕ × X) → Option Word → Option X
in_table rows None = None
in_table rows (Some w) = of_table rows w

-- a property with these flags before those that are read
abbrev pub property_behind : List Flag → List Flag × (WrittenType × Id) → ServiceMember
property_behind front z = property_of (front ++ z.0, z.1)
