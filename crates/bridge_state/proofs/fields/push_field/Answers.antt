use Rattle.bridge_state.proofs.FieldLemmas.{pushed_field}
use Rattle.bridge_state.proofs.fields.push_field.Goals as goal

pub returns : goal.returns
returns c = pushed_field c.args.field.now c.args.value.now c.args.variables.now.items c.push.new.self.items _ c.in_ok-push.ensures.items c.in_ok-name.ensures c.in_ok-value.ensures
