use Rattle.std.proofs.Common.{ap, sym, subst, ◌∙◌, map}
use Rattle.idl_check.proofs.GraphLemmas.{leads_among}
use Rattle.idl_check.proofs.ToldLemmas.{all_keep_classes}
use Rattle.idl_check.specs.Broken.{values_told}
use Rattle.idl_check.specs.Meant.{telling_of}
use Rattle.idl_joint_places.specs.Circles.{LeadsAmong}
use Rattle.idl_meaning_model.specs.Declarations.{all_valued}
use Rattle.idl_meant.specs.Resolving.{all_in}
use Rattle.idl_check.proofs.files.check_meant.Goals as goal

pub check_told-requires-clause-classes : goal.check_told-requires-clause-classes
check_told-requires-clause-classes c = all_keep_classes c.as_slice-2.result.now

pub check_told-requires-clause-values : goal.check_told-requires-clause-values
check_told-requires-clause-values c = ap (map (λ v. v.now)) c.as_slice-3.ensures.value ∙ c.in_ok-worth.ensures ∙ ap (λ ds. map values_told (map telling_of ds)) (c.as_slice.ensures.value ∙ sym c.as_slice-2.ensures.value)

pub check_told-requires-clause-numbered : goal.check_told-requires-clause-numbered
check_told-requires-clause-numbered c = c.requires.told.numbered

pub check_told-requires-clause-identifiers : goal.check_told-requires-clause-identifiers
check_told-requires-clause-identifiers c = c.requires.told.identifiers

pub check_told-requires-clause-graph : goal.check_told-requires-clause-graph
check_told-requires-clause-graph c =
    subst (LeadsAmong (all_valued (all_in c.args.resolved.now))) (sym c.value_graph-graph.ensures) (leads_among (all_valued (all_in c.args.resolved.now)) c.args.meaning.now.numbers.graph c.requires.graph)

pub check_told-requires-clause-resolved : goal.check_told-requires-clause-resolved
check_told-requires-clause-resolved c = record { apart = c.requires.told.apart; once = c.requires.once; values = c.requires.told.values_apart }

pub check_told-requires-clause-told : goal.check_told-requires-clause-told
check_told-requires-clause-told c = ap (map telling_of) c.as_slice-2.ensures.value ∙ c.in_ok-all.ensures
