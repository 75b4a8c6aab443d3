use Rattle.std.proofs.Common.{[], ◌∷◌, ℕ, List, None, subst}
use Rattle.idl_repeated_names.specs.Meeting.{Meets}
use Rattle.idl_repeated_names.specs.Twins.{Named}
use Rattle.idl_repeated_names.proofs.own.meet_name.Goals as goal

pub returns : goal.returns
returns c =
    let called : List ℕ → Named = λ n. record { key = (0, n); place = None } in
    subst (λ n. Meets c.args.twins.now c.meet.new.self (called n ∷ [])) c.as_str.ensures
    (record { met = c.in_ok-meet.ensures.met; own = c.meet.ensures.own; least = c.meet.ensures.least; found = c.in_ok-meet.ensures.found })
