use Rattle.std.proofs.Common.{length, ◌≤◌, arith, map, subst}
use Rattle.std.proofs.lemmas.List.{take_all}
use Rattle.idl_meaning_model.specs.FromFiles.{has_identifiers}
use Rattle.idl_meaning_model.specs.Uses.{uses}
use Rattle.idl_names.specs.Collected.{HasNumbers, declared_of}
use Rattle.idl_names.specs.Telling.{TellsUses}
use Rattle.idl_names.proofs.AloneLemmas.{one_true}
use Rattle.idl_names.proofs.MarkLemmas.{at_index}
use Rattle.idl_names.proofs.TellLemmas.{no_uses, next_uses, uses_at}
use Rattle.idl_names.proofs.telling.tell_all.Goals as goal

pub loop-declared-init : goal.loop-declared-init
loop-declared-init c = λ ds tells right spelled. no_uses c.args.paths.now ds c.args.told.now

pub tell_in-requires-clause-numbers : goal.tell_in-requires-clause-numbers
tell_in-requires-clause-numbers c =
    at_index (HasNumbers c.args.paths.now) c.args.all.now c.loop-declared.declared-index c.declared-item.result c.loop-declared-test.true c.declared-item.is c.requires.numbers

pub loop-declared-preserved : goal.loop-declared-preserved
loop-declared-preserved c = λ ds tells right spelled.
    next_uses c.args.paths.now ds c.args.all.now c.loop-declared.declared-index c.declared-item.result c.args.told.now c.loop-declared.told c.tell_in.new.told
    c.loop-declared-test.true c.declared-item.is (c.loop-declared.invariant ds tells right spelled)
    (c.in_ok-tell_in.ensures ds tells (one_true has_identifiers (declared_of c.args.paths.now) c.args.all.now c.loop-declared.declared-index c.declared-item.result c.loop-declared-test.true c.declared-item.is right)
    (uses_at (declared_of c.args.paths.now) c.args.all.now c.loop-declared.declared-index c.declared-item.result c.loop-declared-test.true c.declared-item.is spelled))

pub returns : goal.returns
returns c = λ ds tells right spelled.
    let end : length c.args.all.now ≤ c.loop-declared.declared-index = omega (arith, c.loop-declared-test.false) in
    subst (λ xs. TellsUses c.args.paths.now ds c.args.told.now (uses (map (declared_of c.args.paths.now) xs)) c.loop-declared.told)
    (take_all c.loop-declared.declared-index c.args.all.now end) (c.loop-declared.invariant ds tells right spelled)
