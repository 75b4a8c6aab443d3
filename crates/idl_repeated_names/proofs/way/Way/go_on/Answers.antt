use Rattle.std.proofs.Common.{refl}
use Rattle.idl_repeated_names.specs.declared.way.Step.{Step}
use Rattle.idl_repeated_names.proofs.WayLemmas.{gone_on}
use Rattle.idl_repeated_names.proofs.way.Way.go_on.Goals as goal

pub returns : goal.returns
returns c = λ over way.
    let step : Step = record { name = c.args.name; names = c.len-names.result; found = c.args.self.now.twins.found } in
    gone_on c.args.self.now (record { steps = c.push.new.self; twins = c.args.self.now.twins }) step refl c.in_ok-push.ensures.items c.len-names.ensures refl over way
