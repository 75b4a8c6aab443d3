use Rattle.idl_repeated_names.proofs.walk.none_asked.Goals as goal

pub returns : goal.returns
returns c = λ functions fields. record { functions_so = (c.no_walk.ensures functions).found; fields_so = (c.no_walk-2.ensures fields).found }
