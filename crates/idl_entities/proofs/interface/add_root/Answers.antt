use Rattle.std.proofs.Common.{ap}
use Rattle.idl_entities.proofs.RootLemmas.{named_root, root_is_put, root_is_there}
use Rattle.idl_entities.proofs.interface.add_root.Goals as goal

pub returns-then-has_mandatory : goal.returns-then-has_mandatory
returns-then-has_mandatory c =
    root_is_there c.args.bases.now.items c.as_slice.result.now c.has_mandatory.result c.as_slice.ensures.value c.has_mandatory.ensures c.if-has_mandatory.true

pub returns : goal.returns
returns c =
    root_is_put c.args.bases.now.items c.as_slice.result.now c.insert.new.self.items _ c.has_mandatory.result c.as_slice.ensures.value c.has_mandatory.ensures
    c.if-has_mandatory.false (ap named_root c.in_ok-name.ensures) c.in_ok-insert.ensures.items
