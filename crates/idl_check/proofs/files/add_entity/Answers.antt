use Rattle.std.proofs.Common.{ap, sym, ◌∙◌, map}
use Rattle.idl_check.specs.Meant.{telling_of}
use Rattle.idl_check.proofs.ToldLemmas.{none_added, one_added}
use Rattle.idl_meaning_model.specs.Declarations.{is_forward}
use Rattle.idl_check.proofs.files.add_entity.Goals as goal

pub returns-then-is_forward : goal.returns-then-is_forward
returns-then-is_forward c = none_added (map telling_of c.args.all.now.items) (telling_of c.args.declaration) (ap is_forward (sym c.body.ensures) ∙ sym c.is_forward.ensures ∙ c.if-is_forward.true)

pub returns : goal.returns
returns c = one_added c.args.all.now.items c.push.new.self.items c.args.declaration c.in_ok-push.ensures.items (ap is_forward (sym c.body.ensures) ∙ sym c.is_forward.ensures ∙ c.if-is_forward.false)
