-- Names: identifiers, and identifiers joined by points (UNOIDL grammar, lexical elements).
use Rattle.std.specs.Prelude.{ℕ, Bool, true, false, not, ◌&&◌, ◌||◌, ◌==◌, List, [], ◌∷◌, codes}
use Rattle.std.specs.List.{list_all, list_any}
use Rattle.std.specs.Char.{is_ascii_alphabetic, is_ascii_alphanumeric}
use Rattle.std.specs.Str.{bytes_eq}

-- the words of the grammar, of the simple types, and of the two truths, in the order of their bytes
abbrev pub reserved_words : List (List ℕ)
reserved_words =
    codes "FALSE" ∷ (codes "False" ∷ (codes "TRUE" ∷ (codes "True" ∷ (codes "any" ∷ (codes "attribute" ∷ (codes "boolean" ∷ (codes "bound" ∷ (codes "byte" ∷ (codes "char"
    ∷ (codes "const" ∷ (codes "constants" ∷ (codes "constrained" ∷ (codes "double" ∷ (codes "enum" ∷ (codes "exception" ∷ (codes "float" ∷ (codes "get" ∷ (codes "hyper"
    ∷ (codes "in" ∷ (codes "inout" ∷ (codes "interface" ∷ (codes "long" ∷ (codes "maybeambiguous" ∷ (codes "maybedefault" ∷ (codes "maybevoid" ∷ (codes "module"
    ∷ (codes "oneway" ∷ (codes "optional" ∷ (codes "out" ∷ (codes "property" ∷ (codes "published" ∷ (codes "raises" ∷ (codes "readonly" ∷ (codes "removable"
    ∷ (codes "sequence" ∷ (codes "service" ∷ (codes "set" ∷ (codes "short" ∷ (codes "singleton" ∷ (codes "string" ∷ (codes "struct" ∷ (codes "transient" ∷ (codes "type"
    ∷ (codes "typedef" ∷ (codes "unsigned" ∷ (codes "void" ∷ []))))))))))))))))))))))))))))))))))))))))))))))

-- a letter or `_`, and a letter, digit or `_`
abbrev pub begins_identifier : ℕ → Bool
begins_identifier c = is_ascii_alphabetic c || (c == 95)

abbrev pub goes_on_identifier : ℕ → Bool
goes_on_identifier c = is_ascii_alphanumeric c || (c == 95)

-- a letter or `_`, then letters, digits and `_`, and no reserved word
abbrev pub is_identifier : List ℕ → Bool
is_identifier [] = false
is_identifier (c ∷ cs) = (begins_identifier c && list_all goes_on_identifier cs) && not (list_any (bytes_eq (c ∷ cs)) reserved_words)

-- what stands between the points
unfoldable pub parts_of : List ℕ → List (List ℕ)
parts_of [] = [] ∷ []
parts_of (c ∷ cs) = more_part c (parts_of cs) (c == 46)
  where
    more_part : ℕ → List (List ℕ) → Bool → List (List ℕ)
    more_part c parts true = [] ∷ parts
    more_part c [] false = (c ∷ []) ∷ []
    more_part c (part ∷ parts) false = (c ∷ part) ∷ parts

-- identifiers joined by points
abbrev pub is_entity_name : List ℕ → Bool
is_entity_name name = list_all is_identifier (parts_of name)
