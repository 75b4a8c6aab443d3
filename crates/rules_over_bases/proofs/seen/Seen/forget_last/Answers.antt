use Rattle.std.proofs.Common.{◌∷◌, [], ◌++◌, length, sym, ap, ◌∙◌, arith}
use Rattle.rules_over_bases.proofs.SeenLemmas.{forgets_last, none_last}
use Rattle.rules_over_bases.proofs.seen.Seen.forget_last.Goals as goal

pub returns-in_default-clause-last : goal.returns-in_default-clause-last
returns-in_default-clause-last c = none_last c.args.self.now _ (omega (arith, c.in_default.ensures.cases.0))

pub returns-clause-last : goal.returns-clause-last
returns-clause-last c =
    forgets_last c.args.self.now c.forget.new.self c.in-Some.entry (c.in-Some.ensures.items ∙ ap (λ es. es ++ c.in-Some.entry ∷ []) (sym c.forget.ensures.entries))
    (λ fine names has. c.forget.ensures.sets fine names (record { read = has.read; written = has.written; plain = has.plain; differ = has.differ }))

pub returns-clause-fewer : goal.returns-clause-fewer
returns-clause-fewer c = omega (arith, ap length c.forget.ensures.entries, c.in-Some.ensures.cases)
