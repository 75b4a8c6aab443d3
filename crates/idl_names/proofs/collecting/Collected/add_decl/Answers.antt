use Rattle.idl_names.proofs.CollectedLemmas.{adds_one}
use Rattle.idl_names.proofs.collecting.Collected.add_decl.Goals as goal

pub returns : goal.returns
returns c =
    adds_one c.args.self.now (record { paths = c.open.new.self; declared = c.push.new.self }) _ c.as_str.result.now c.in_ok-push.ensures.items c.as_str.ensures c.requires
    c.in_ok-path.ensures.opened c.in_ok-path.ensures.number
