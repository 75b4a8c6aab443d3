-- What is read of expressions, by how many levels of operators are left and how many parentheses may still open.
use Rattle.std.proofs.Common.{◌≡◌, ℕ, zero, suc, ◌<◌, ◌-◌, codes, refl, ap, arith}
use Rattle.std.proofs.lemmas.Bool.{ne_eqb}
use Rattle.grammar_model.specs.Readings.{closed, one, touching, ◌&>◌, ◌<&◌}
use Rattle.idl_model.specs.Grammar.{Tokens}
use Rattle.idl_model.specs.GrammarReading.{ReadsTokens, chain_by, expr_by, group_at, is_mark, mark, operator_at, shift_at, signed_by}
use Rattle.idl_model.specs.PlacedTokens.{touches}
use Rattle.idl_model.specs.Trees.{Expr}
use Rattle.idl_parse.specs.Levels.{begins_operator, operator, within_levels}

pub no_level : (levels : ℕ) (group : ReadsTokens Expr) (toks : Tokens) → levels ≡ 0 → within_levels levels group toks ≡ signed_by group toks
unfolding within_levels
no_level levels group toks none = rw none refl

pub level_on : (levels : ℕ) (group : ReadsTokens Expr) (toks : Tokens) → 0 < levels
    → within_levels levels group toks ≡ chain_by (begins_operator (5 - (levels - 1))) (operator (5 - (levels - 1))) (within_levels (levels - 1) group) toks
unfolding within_levels
level_on zero group toks some = let bad : ⊥ = omega arith in absurd bad
level_on (suc levels) group toks some =
    let fuel : levels ≡ suc levels - 1 = omega arith in
    ap (λ n. chain_by (begins_operator (5 - n)) (operator (5 - n)) (within_levels n group) toks) fuel

pub ruleset levels = (no_level, level_on)

pub no_group : (depth : ℕ) (toks : Tokens) → depth ≡ 0 → group_at depth toks ≡ closed (is_mark (codes "(")) toks
unfolding group_at
no_group depth toks none = rw none refl

pub group_on : (depth : ℕ) (toks : Tokens) → 0 < depth
    → group_at depth toks ≡ (mark (codes "(") &> within_levels 6 (group_at (depth - 1)) <& mark (codes ")")) toks
unfolding group_at within_levels
group_on zero toks some = let bad : ⊥ = omega arith in absurd bad
group_on (suc depth) toks some =
    let fuel : depth ≡ suc depth - 1 = omega arith in
    ap (λ n. (mark (codes "(") &> expr_by (group_at n) <& mark (codes ")")) toks) fuel

pub ruleset groups = (no_group, group_on)

-- the operator of a level: a shift, or a mark
pub shift_read : (level : ℕ) (toks : Tokens) → level ≡ 3 → operator level toks ≡ touching shift_at touches toks
shift_read level toks is = rw is refl

pub mark_read : (level : ℕ) (toks : Tokens) → ¬ (level ≡ 3) → operator level toks ≡ one (operator_at level) toks
mark_read level toks other = rw (ne_eqb level 3 other) refl
