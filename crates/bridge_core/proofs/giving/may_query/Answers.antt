use Rattle.std.proofs.Common.{rules, ap, ◌∙◌}
use Rattle.uno_model.specs.Kinds as kd
use Rattle.uno_model.specs.Types.{is_type}
use Rattle.bridge_core.proofs.GivingLemmas.{query_said, said_wanted}
use Rattle.bridge_core.proofs.giving.may_query.Goals as goal

pub returns : goal.returns
returns c = λ tid thread. (
  λ there. query_said c.args.registry.now (search rules) (search rules) tid c.args.oid.now c.args.face.now c.args.wanted.now thread (search rules) (search rules) (search rules),
  λ said. c.has_interface-2.ensures ∙ ap (λ n. is_type c.args.registry.now (kd.interface n)) c.as_str.ensures
      ∙ said_wanted c.args.registry.now (search rules) (search rules) tid c.args.oid.now c.args.face.now c.args.wanted.now said,
)
