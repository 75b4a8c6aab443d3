use Rattle.std.specs.Prelude.{◌↔◌, IsTrue}
use Rattle.std.proofs.Common.{ap, subst, sym, ◌∙◌}
use Rattle.bridge_model.specs.Calls.{query_args}
use Rattle.bridge_model.specs.Settings.{root_tid}
use Rattle.message_model.specs.Messages.{request}
use Rattle.message_model.specs.Sayable.{MayBeSaid}
use Rattle.plan_model.specs.Forms.{is_export_name}
use Rattle.uno_model.specs.BuiltIn.{x_interface_name}
use Rattle.bridge_core.proofs.GivingLemmas.{name_given, name_refused}
use Rattle.bridge_core.proofs.giving.may_ask.Goals as goal

pub returns-then-not-is_export_name : goal.returns-then-not-is_export_name
returns-then-not-is_export_name c = λ g root same thread.
    name_refused g root c.args.name.now c.args.wanted.now (ap is_export_name (sym c.as_str.ensures) ∙ (sym c.is_export_name.ensures ∙ c.if-not-is_export_name.true))

pub returns : goal.returns
returns c = λ g root same thread.
    name_given g root c.args.name.now c.args.wanted.now c.may_query.result
    (ap is_export_name (sym c.as_str.ensures) ∙ (sym c.is_export_name.ensures ∙ c.if-not-is_export_name.false))
    (subst (λ reg. IsTrue c.may_query.result ↔ MayBeSaid reg (request (root_tid g root) c.args.name.now x_interface_name 0 (query_args c.args.wanted.now))) (sym same)
    (c.may_query.ensures (root_tid g root) thread))
