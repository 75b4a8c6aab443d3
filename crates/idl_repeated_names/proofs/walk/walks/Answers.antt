use Rattle.std.proofs.Common.{subst, sym}
use Rattle.uno_model.specs.Circles.{HasNoCircle}
use Rattle.uno_model.specs.Registry.{IsRising, leads_to}
use Rattle.idl_repeated_names.proofs.walk.walks.Goals as goal

pub has_no_circles-requires : goal.has_no_circles-requires
has_no_circles-requires c = subst IsRising (sym c.entities-entities.ensures.all) c.entities-entities.ensures.rising

pub returns-then-not-branch : goal.returns-then-not-branch
returns-then-not-branch c = c.none_asked.ensures _ _

pub bases_first-requires : goal.bases_first-requires
bases_first-requires c = subst IsRising (sym c.entities-entities.ensures.all) c.entities-entities.ensures.rising

pub walk_both-requires : goal.walk_both-requires
walk_both-requires c = subst (λ es. HasNoCircle (leads_to es)) c.entities-entities.ensures.all (c.in_ok-has_no_circles.ensures.0 c.if-not-branch.false)

pub returns : goal.returns
returns c = c.walk_both.ensures
