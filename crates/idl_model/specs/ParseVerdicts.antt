-- What comes of the tokens of a UNOIDL file: its tree, or the place at which they go wrong. Readings are not spoken of.
use Rattle.std.specs.Prelude.{◌≡◌, ℕ, ◌+◌, ◌-◌, Bool, true, List, [], ◌∷◌, length, drop, is_some, Result, Ok, Err, codes}
use Rattle.grammar_model.specs.Verdicts.{IsUnexpected, IsNested}
use Rattle.grammar_model.specs.declared.fault.Fault.{Fault}
use Rattle.grammar_model.specs.declared.fault.Why.{Why}
use Rattle.grammar_model.specs.declared.fault.Why.TheVariants.{Unexpected, Nested}
use Rattle.idl_model.specs.Depths.{tree_fits}
use Rattle.idl_model.specs.Grammar.{Tokens, IsTree, of_marks}
use Rattle.idl_model.specs.GrammarReading.{read_tree}
use Rattle.idl_model.specs.Places.{Place}
use Rattle.idl_model.specs.PlacedTokens.{PlacedToken}
use Rattle.idl_model.specs.Trees.{Tree}

-- the first token after which no text of the grammar begins so, or the place behind the last token; the mark that opens the 65th parenthesis, module or type
-- with `<`
pub data ParseFault : Type 0 where
  unexpected : Place → ParseFault
  nested : Place → ParseFault

-- the marks that open something: of those of parentheses, modules and types only so many may be open
abbrev pub opening_marks : List (List ℕ × Bool)
opening_marks = (codes "(", true) ∷ ((codes "{", true) ∷ ((codes "<", true) ∷ []))

abbrev pub opens : PlacedToken → Bool
opens t = is_some (of_marks opening_marks t.word)

-- the place behind the last token
unfoldable pub end_of : Tokens → Place
end_of [] = record { file = 0; byte = 0 }
end_of (t ∷ []) = record { file = t.place.file; byte = t.place.byte + t.length }
end_of (t ∷ (s ∷ ts)) = end_of (s ∷ ts)

-- the place of the first of the last tokens, of which there are so many
abbrev pub place_from : Place → Tokens → Place
place_from at_end [] = at_end
place_from at_end (t ∷ ts) = t.place

abbrev pub place_left : Tokens → ℕ → Place
place_left toks n = place_from (end_of toks) (drop (length toks - n) toks)

abbrev pub IsParsed : Tokens → Result Tree ParseFault → Type 0
IsParsed toks (Ok tree) = IsTree tree toks × (tree_fits tree ≡ true)
IsParsed toks (Err (unexpected place)) = (left : ℕ) × IsUnexpected opens tree_fits IsTree toks left × (place ≡ place_left toks left)
IsParsed toks (Err (nested place)) = (left : ℕ) × IsNested opens tree_fits IsTree toks left × (place ≡ place_left toks left)

-- the same as a function of the tokens
abbrev pub fault_of : Tokens → Why → ℕ → ParseFault
fault_of toks Unexpected left = unexpected (place_left toks left)
fault_of toks Nested left = nested (place_left toks left)

abbrev pub with_place : Tokens → Result Tree Fault → Result Tree ParseFault
with_place toks (Ok tree) = Ok tree
with_place toks (Err f) = Err (fault_of toks f.why f.left)

abbrev pub parsed : Tokens → Result Tree ParseFault
parsed toks = with_place toks (read_tree toks)
