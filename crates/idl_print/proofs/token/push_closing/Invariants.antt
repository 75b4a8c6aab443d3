use Rattle.std.proofs.Common.{◌≡◌, ◌++◌}
use Rattle.uno_entities.specs.TypeNames.{kind_of}
use Rattle.uno_model.specs.Kinds.{nesting}
use Rattle.idl_print.specs.Tokens.{followed, closing}
use Rattle.idl_print.proofs.token.push_closing.Given as goal

abbrev pub invariant-loop-inner : goal.invariant-loop-inner
invariant-loop-inner l = l.text.items ++ followed (closing (kind_of l.kind)) ≡ l.fn.text.items ++ followed (closing (kind_of l.kind-2))

abbrev pub decreases-loop-inner : goal.decreases-loop-inner
decreases-loop-inner l = nesting (kind_of l.kind)
