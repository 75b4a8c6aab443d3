use Rattle.world_laws.proofs.InterlockLaws.{both_current}
use Rattle.world_laws.proofs.LastLaws.{both_last}
use Rattle.world_laws.proofs.run_laws.an_end_is_read_as_it_last_stood.Goals as goal

pub returns-clause-a : goal.returns-clause-a
returns-clause-a c g es w met =
    let last = (both_last g es w met).a in
    record {
      before = last.before;
      behind = last.behind;
      journal = last.journal;
      leads = last.leads;
      up = last.up;
      said = last.said;
      got = last.got;
      current = (both_current g es w met).a;
    }

pub returns-clause-b : goal.returns-clause-b
returns-clause-b c g es w met =
    let last = (both_last g es w met).b in
    record {
      before = last.before;
      behind = last.behind;
      journal = last.journal;
      leads = last.leads;
      up = last.up;
      said = last.said;
      got = last.got;
      current = (both_current g es w met).b;
    }
