use Rattle.std.proofs.Common.{◌∙◌, ◌++◌, ap, map}
use Rattle.std.specs.List.{flat_map}
use Rattle.idl_meant.specs.Using.{entity_use, use_of}
use Rattle.idl_names.specs.Used.{all_used_of}
use Rattle.idl_meant.proofs.uses.add_uses.Goals as goal

pub returns : goal.returns
returns c =
    c.in_ok-add_all.ensures
    ∙ ap (λ us. map use_of c.args.uses.now.items ++ flat_map (entity_use c.args.declared.now.modules) us) (ap all_used_of c.as_slice.ensures.value ∙ c.in_ok-used.ensures)
