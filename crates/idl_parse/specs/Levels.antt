-- Expressions by the levels of their operators: how many levels are left, from the one that binds most strongly on.
use Rattle.std.specs.Prelude.{ℕ, zero, suc, ◌-◌, ◌==◌, Bool, Option, None, Some, if◌then◌else◌}
use Rattle.grammar_model.specs.Readings.{one, touching}
use Rattle.idl_model.specs.GrammarReading.{ReadsTokens, is_mark_of, is_operator, operator_at, shift_at, signed_by, chain_by}
use Rattle.idl_model.specs.Grammar.{number_of, of_table, shift_marks, truth_words}
use Rattle.idl_model.specs.PlacedTokens.{PlacedToken, touches}
use Rattle.idl_model.specs.Trees.{Operator, Expr}

-- whether an operator of a level is next, and the operator
abbrev pub begins_operator : (level : ℕ) → Option PlacedToken → Bool
begins_operator level = if level == 3 then is_mark_of shift_marks else is_operator level

abbrev pub operator : (level : ℕ) → ReadsTokens Operator
operator level = if level == 3 then touching shift_at touches else one (operator_at level)

-- the number and the truth that is next, if one is
abbrev pub number_in : Option PlacedToken → Option ℕ
number_in None = None
number_in (Some t) = number_of t.word

abbrev pub truth_in : Option PlacedToken → Option Bool
truth_in None = None
truth_in (Some t) = of_table truth_words t.word

-- an expression of the strongest of these levels, in which parentheses are read so
unfoldable pub within_levels : (levels : ℕ) → ReadsTokens Expr → ReadsTokens Expr
within_levels zero group = signed_by group
within_levels (suc n) group = chain_by (begins_operator (5 - n)) (operator (5 - n)) (within_levels n group)
