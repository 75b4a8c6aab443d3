-- Tokens as they stand in the definitions, each with its place.
use Rattle.std.specs.List.{AllByRecursion}
use Rattle.std.specs.Prelude.{◌+◌, ◌≤◌, List, map}
use Rattle.idl_model.specs.PlacedTokens.{PlacedToken}
use Rattle.idl_text_model.specs.LexVerdicts.{most_bytes}
use Rattle.idl_text_model.specs.Tokens as plain
use Rattle.idl_trees.specs.Names.{place_of}
use Rattle.idl_trees.specs.declared.token.Token.{Token}
use Rattle.idl_trees.specs.declared.token.Word.{Word}
use Rattle.idl_trees.specs.declared.token.Word.TheVariants as word

abbrev pub word_of : Word → plain.Word
word_of (word.Identifier name) = plain.identifier name
word_of (word.Number n) = plain.number n
word_of (word.Quoted text) = plain.quoted text
word_of (word.Mark text) = plain.mark text

abbrev pub token_of : Token → PlacedToken
token_of t = record { word = word_of t.word; place = place_of t.place; length = t.length }

abbrev pub tokens_of : List Token → List PlacedToken
tokens_of = map token_of

-- each ends within a file of the largest size
abbrev pub EndInFile : List PlacedToken → Type 0
EndInFile ts = AllByRecursion (λ t. t.place.byte + t.length ≤ most_bytes) ts
