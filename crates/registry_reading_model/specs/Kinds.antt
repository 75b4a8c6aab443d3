-- Types, as a line writes them.
use Rattle.std.specs.Prelude.{ℕ, zero, suc, ◌&&◌, ◌==◌, List, [], ◌∷◌, Option, None, Some, if◌then◌else◌}
use Rattle.uno_model.specs.Kinds.{Kind}
use Rattle.uno_model.specs.Kinds as kd
use Rattle.uno_model.specs.Names.{is_entity_name}
use Rattle.uno_model.specs.NamedTypes.{simple_of}
use Rattle.registry_reading_model.specs.Words.{on_some, where_}

-- how many `[]` stand in front, and what stands behind them
unfoldable pub brackets : List ℕ → ℕ
brackets [] = 0
brackets (c ∷ []) = 0
brackets (c ∷ (d ∷ cs)) = if (c == 91) && (d == 93) then suc (brackets cs) else 0

unfoldable pub behind_brackets : List ℕ → List ℕ
behind_brackets [] = []
behind_brackets (c ∷ []) = c ∷ []
behind_brackets (c ∷ (d ∷ cs)) = if (c == 91) && (d == 93) then behind_brackets cs else c ∷ (d ∷ cs)

-- so many sequences of it
unfoldable pub sequences : ℕ → Kind → Kind
sequences zero k = k
sequences (suc n) k = kd.sequence (sequences n k)

-- a simple type, or a name, which stands as a struct's
abbrev pub or_named : List ℕ → Option Kind → Option Kind
or_named text (Some k) = Some k
or_named text None = where_ (is_entity_name text) (Some (kd.struct text))

unfoldable pub word_kind_of : List ℕ → Option Kind
word_kind_of text = or_named text (simple_of text)

unfoldable pub kind_of_text : List ℕ → Option Kind
kind_of_text text = on_some (word_kind_of (behind_brackets text)) (λ k. Some (sequences (brackets text) k))
