use Rattle.idl_repeated_names.proofs.walk.goes_back.Goals as goal

pub returns : goal.returns
returns c = λ is. record { base = c.in-Some.base.now; alone = c.in-Some.ensures; back = c.in_ok-there.ensures is }
