use Rattle.std.proofs.Common.{ℕ, List, ◌≤◌, length, Bor, arith}
use Rattle.std.specs.List.{flat_map}
use Rattle.idl_places.proofs.Steps.{joined_tells}
use Rattle.idl_repeated_names.specs.Over.{fields_at, owned}
use Rattle.idl_repeated_names.specs.Twins.{Named}
use Rattle.idl_repeated_names.proofs.MeetingLemmas.{meets_all, meets_none, meets_read}
use Rattle.idl_repeated_names.proofs.over.meet_fields_of.Goals as goal

pub loop-name-init : goal.loop-name-init
loop-name-init c = meets_none c.args.twins.now

pub loop-name-preserved : goal.loop-name-preserved
loop-name-preserved c =
    let at : List ℕ → List Named = fields_at (owned c.args.around.owners.now) c.args.around.built_in.now in
    meets_read (flat_map at) at (joined_tells at) (λ (n : Bor (List ℕ)). n.now) c.args.names.now c.loop-name.name-index _ c.args.twins.now c.loop-name.twins
    c.meet_fields_at.new.twins c.loop-name-test.true c.loop-name.invariant c.in_ok-meet_fields_at.ensures

pub returns : goal.returns
returns c =
    let at : List ℕ → List Named = fields_at (owned c.args.around.owners.now) c.args.around.built_in.now in
    let end : length c.args.names.now ≤ c.loop-name.name-index = omega (arith, c.loop-name-test.false) in
    meets_all (flat_map at) (λ (n : Bor (List ℕ)). n.now) c.args.names.now c.loop-name.name-index c.args.twins.now c.loop-name.twins end c.loop-name.invariant
