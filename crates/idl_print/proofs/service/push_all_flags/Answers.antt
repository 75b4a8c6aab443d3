use Rattle.std.proofs.Common.{codes, ◌∷◌, []}
use Rattle.idl_print.proofs.TokenLemmas.{words_left, no_words_left}
use Rattle.idl_print.proofs.service.push_all_flags.Goals as goal

pub loop-flag-preserved : goal.loop-flag-preserved
loop-flag-preserved c =
    words_left (λ w. codes "," ∷ (w ∷ [])) c.args.flags.now c.loop-flag.flag-index _ _ _ _ c.loop-flag-test.true c.loop-flag.invariant c.in_ok-push_flag.ensures

pub returns : goal.returns
returns c = no_words_left (λ w. codes "," ∷ (w ∷ [])) c.args.flags.now c.loop-flag.flag-index _ _ c.loop-flag-test.false c.loop-flag.invariant
