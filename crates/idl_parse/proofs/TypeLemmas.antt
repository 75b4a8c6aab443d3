-- What is read between `<` and `>`, by how many may still open.
use Rattle.std.proofs.Common.{◌≡◌, ℕ, zero, suc, ◌<◌, ◌-◌, true, false, codes, refl, ap, ◌∙◌, arith}
use Rattle.grammar_model.proofs.Choices.{chosen_first, chosen_other}
use Rattle.grammar_model.specs.Readings.{choice, closed, image, next, ◌&◌, ◌&>◌, ◌<&◌}
use Rattle.idl_model.specs.Grammar.{Tokens, constant_of}
use Rattle.idl_model.specs.GrammarReading.{begins_name, const, element_at, expr, id, is_keyword, is_mark, keyword, keyword_place, mark, name}
use Rattle.idl_model.specs.GrammarReading.{named_of, sequence_type, simple_of, simple_type, type, type_by}

pub no_element : (depth : ℕ) (toks : Tokens) → depth ≡ 0 → element_at depth toks ≡ closed (is_mark (codes "<")) toks
unfolding element_at
no_element depth toks none = rw none refl

pub element_on : (depth : ℕ) (toks : Tokens) → 0 < depth → element_at depth toks ≡ (mark (codes "<") &> type (depth - 1) <& mark (codes ">")) toks
unfolding element_at type
element_on zero toks some = let bad : ⊥ = omega arith in absurd bad
element_on (suc depth) toks some =
    let fuel : depth ≡ suc depth - 1 = omega arith in
    ap (λ n. (mark (codes "<") &> type_by (element_at n) <& mark (codes ">")) toks) fuel

pub ruleset elements = (no_element, element_on)

-- a type, by its parts
pub type_parts : (depth : ℕ) (toks : Tokens) → type depth toks ≡ type_by (element_at depth) toks
unfolding type
type_parts depth toks = refl

-- a constant, by its parts
pub constant_parts : (types brackets : ℕ) (toks : Tokens) → const types brackets toks
    ≡ image constant_of (keyword (codes "const") &> type types & id & mark (codes "=") &> expr brackets <& mark (codes ";")) toks
unfolding const
constant_parts types brackets toks = refl

-- a type that is a name
pub named_type : (depth : ℕ) (toks : Tokens) → is_keyword (codes "sequence") (next toks) ≡ false → begins_name (next toks) ≡ true
    → type depth toks ≡ image named_of name toks
unfolding type
named_type depth toks other is =
    chosen_other (is_keyword (codes "sequence")) (image sequence_type (keyword_place (codes "sequence") & element_at depth))
    (choice begins_name (image named_of name) (image simple_of simple_type)) toks other
    ∙ chosen_first begins_name (image named_of name) (image simple_of simple_type) toks is
