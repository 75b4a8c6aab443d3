use Rattle.std.proofs.Common.{[], ◌∷◌, ℕ, List, Some, subst}
use Rattle.idl_repeated_names.specs.Meeting.{Meets}
use Rattle.idl_repeated_names.specs.Twins.{Named}
use Rattle.idl_trees.specs.Names.{place_of}
use Rattle.idl_repeated_names.proofs.own.meet_accessor.Goals as goal

pub returns : goal.returns
returns c =
    let called : List ℕ → Named = λ n. record { key = (c.args.number, n); place = Some (place_of c.args.id.now.place) } in
    subst (λ n. Meets c.args.twins.now c.meet.new.self (called n ∷ [])) c.as_str.ensures
    (record { met = c.in_ok-meet.ensures.met; own = c.meet.ensures.own; least = c.meet.ensures.least; found = c.in_ok-meet.ensures.found })
