use Rattle.std.proofs.Common.{codes, length}
use Rattle.grammar_model.specs.Readings.{◌&>◌}
use Rattle.idl_model.specs.GrammarReading.{id, is_mark, mark}
use Rattle.idl_parse.proofs.MappedLoops.{HasParts}
use Rattle.idl_parse.proofs.parser.Parser.more_parts.Given as goal

abbrev pub invariant-loop-self : goal.invariant-loop-self
invariant-loop-self l = HasParts (λ i. i.name) (is_mark (codes "::")) (mark (codes "::") &> id) l.fn.self l.fn.parts.items l.parts.items l.self

abbrev pub decreases-loop-self : goal.decreases-loop-self
decreases-loop-self l = length l.self
