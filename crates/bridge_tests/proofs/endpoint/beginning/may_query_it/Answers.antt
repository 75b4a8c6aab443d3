use Rattle.std.proofs.Common.{subst}
use Rattle.bridge_endpoint.specs.Journals.{setting_at}
use Rattle.bridge_model.specs.Calls.{query_args}
use Rattle.bridge_model.specs.Settings.{root_tid}
use Rattle.message_model.specs.Messages.{request}
use Rattle.message_model.specs.Sayable.{MayBeSaid}
use Rattle.bridge_tests.proofs.Giving.{root_thread}
use Rattle.bridge_tests.proofs.endpoint.beginning.may_query_it.Goals as goal

pub returns : goal.returns
returns c = λ there.
    let g = setting_at c.args.end.now in
    let tid = root_tid g c.args.root in
    subst (λ f. MayBeSaid g.registry (request tid c.args.oid.now f 0 (query_args c.args.wanted.now))) c.as_str.ensures
    (
    subst (λ reg. MayBeSaid reg (request tid c.args.oid.now c.as_str.result.now 0 (query_args c.args.wanted.now))) c.registry.ensures.same
    ((c.may_query.ensures tid (root_thread g c.args.root c.registry.ensures.tag c.ranges.root.fits)).0 there)
    )
