use Rattle.idl_repeated_names.proofs.walk.visit_at.Goals as goal

pub returns-in_default : goal.returns-in_default
returns-in_default c = λ was. was

pub returns-then-not-is_of : goal.returns-then-not-is_of
returns-then-not-is_of c = λ was. was

pub returns : goal.returns
returns c = c.visit.ensures
