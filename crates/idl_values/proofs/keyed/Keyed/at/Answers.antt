use Rattle.std.proofs.Common.{◌∙◌}
use Rattle.idl_meaning_model.proofs.FaultLaws.{at_itself}
use Rattle.idl_trees.specs.Names.{place_of}
use Rattle.idl_values.proofs.KeyLemmas.{beside_found, beside_none}
use Rattle.idl_values.proofs.keyed.Keyed.at.Goals as goal

pub returns-in-Ok : goal.returns-in-Ok
returns-in-Ok c =
    let p = place_of c.args.place in
    c.number.ensures
    ∙ beside_found c.args.self.now.keys.items c.args.self.now.numbers.items c.as_slice.result.now p c.key_of-key.result c.in-Ok.index c.as_slice.ensures.value c.args.self.now.rise (c.key_of-key.ensures p ∙ at_itself p)
    c.in-Ok.ensures.position

pub returns-in-Err : goal.returns-in-Err
returns-in-Err c =
    let p = place_of c.args.place in
    beside_none c.args.self.now.keys.items c.args.self.now.numbers.items c.as_slice.result.now p c.key_of-key.result c.in-Err.field-0 c.as_slice.ensures.value c.args.self.now.rise (c.key_of-key.ensures p ∙ at_itself p)
    c.in-Err.ensures.position
