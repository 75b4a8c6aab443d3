use Rattle.idl_repeated_names.proofs.repeated.repeated_among.Goals as goal

pub returns : goal.returns
returns c = λ paths named identifiers built.
    c.least_of.ensures paths (record { named = named; identifiers = identifiers; owns = c.in_ok-owners.ensures paths named; is_built = built })
