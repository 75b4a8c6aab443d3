use Rattle.std.proofs.Common.{map}
use Rattle.std.specs.List.{flat_map}
use Rattle.std.specs.Str.{bytes_eq}
use Rattle.uno_entities.specs.Entities.{member_of}
use Rattle.uno_model.specs.Functions.{accessors_of, calls_of}
use Rattle.uno_model.specs.Functions as plain
use Rattle.plan_checks.proofs.FindLemmas.{first_found, then_found}
use Rattle.plan_checks.proofs.functions.member_named.Goals as goal

pub returns-in-Some : goal.returns-in-Some
returns-in-Some c =
    first_found (λ (f : plain.Function). bytes_eq c.args.name.now f.name) (flat_map (accessors_of c.args.owner.now) (map member_of c.args.members.now))
    (flat_map (calls_of c.args.owner.now) (map member_of c.args.members.now)) _ c.in-Some.ensures

pub returns-in-None : goal.returns-in-None
returns-in-None c =
    then_found (λ (f : plain.Function). bytes_eq c.args.name.now f.name) (flat_map (accessors_of c.args.owner.now) (map member_of c.args.members.now))
    (flat_map (calls_of c.args.owner.now) (map member_of c.args.members.now)) _ c.in-None.ensures c.method_named.ensures
