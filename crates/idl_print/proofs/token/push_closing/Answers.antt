use Rattle.std.proofs.Common.{◌++◌, sym, ap, ◌∙◌, rules, arith}
use Rattle.uno_model.specs.Kinds.{nesting}
use Rattle.uno_entities.specs.TypeNames.{kind_of}
use Rattle.idl_print.specs.Tokens.{followed}
use Rattle.idl_print.proofs.TokenLemmas.{no_closing, no_tokens, is_sequence, closing_step}
use Rattle.idl_print.proofs.token.push_closing.Goals as goal

pub loop-inner-preserved : goal.loop-inner-preserved
loop-inner-preserved c = closing_step _ _ _ _ _ (is_sequence _ _ (search rules)) c.loop-inner.invariant c.in_ok-push_token.ensures

pub loop-inner-smaller : goal.loop-inner-smaller
loop-inner-smaller c = let is = is_sequence (kind_of c.loop-inner.kind.now) (kind_of c.in-Some.inner.now) (search rules) in omega (arith, ap nesting is)

pub returns : goal.returns
returns c =
    sym (no_tokens c.loop-inner.text.items) ∙ ap (λ ts. c.loop-inner.text.items ++ followed ts) (sym (no_closing (kind_of c.loop-inner.kind.now) (search rules))) ∙ c.loop-inner.invariant
