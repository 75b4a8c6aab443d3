use Rattle.idl_repeated_names.proofs.walk.walk_both.Goals as goal

pub returns : goal.returns
returns c = record { functions_so = c.in_ok-functions.ensures.found; fields_so = c.in_ok-fields.ensures.found }
