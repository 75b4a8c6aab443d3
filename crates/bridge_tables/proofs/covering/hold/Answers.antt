use Rattle.std.proofs.Common.{ap, sym, ◌∙◌, subst}
use Rattle.table_model.specs.Pair.{pair}
use Rattle.bridge_tables.proofs.CoverSteps.{Covers, again_covers, first_covers, held_back}
use Rattle.bridge_tables.proofs.covering.hold.Goals as goal

pub returns-then-not-branch-clause-covers : goal.returns-then-not-branch-clause-covers
returns-then-not-branch-clause-covers c =
    again_covers c.args.holder (pair c.args.oid.now c.args.face.now) c.args.objects.now c.hold.new.self c.args.proxies.now c.args.unsaid.now.kept c.requires.covered c.in_ok-hold.ensures.held
    (sym c.in_ok-hold.ensures.first ∙ c.if-not-branch.true)

pub returns-in-Ok-clause-covers : goal.returns-in-Ok-clause-covers
returns-in-Ok-clause-covers c =
    first_covers c.args.holder (pair c.args.oid.now c.args.face.now) c.args.objects.now c.hold.new.self c.args.proxies.now c.args.unsaid.now.kept c.requires.covered c.in_ok-hold.ensures.held c.requires.theirs
    (sym c.in_ok-hold.ensures.first ∙ c.if-not-branch.false) c.arrive.new.proxies c.arrive.new.unsaid.kept c.in-Ok.ensures.arrived (ap (λ q. q.kept) c.in-Ok.ensures.room)

pub returns-in-Err-clause-kept : goal.returns-in-Err-clause-kept
returns-in-Err-clause-kept c = held_back c.args.holder (pair c.args.oid.now c.args.face.now) c.args.objects.now c.hold.new.self c.let_go.new.self c.in_ok-hold.ensures.held c.let_go.ensures.gone

pub returns-in-Err-clause-covers : goal.returns-in-Err-clause-covers
returns-in-Err-clause-covers c =
    let back = held_back c.args.holder (pair c.args.oid.now c.args.face.now) c.args.objects.now c.hold.new.self c.let_go.new.self c.in_ok-hold.ensures.held c.let_go.ensures.gone in
    subst (λ k. Covers k c.arrive.new.proxies c.arrive.new.unsaid.kept) (sym back)
    (subst (λ p. Covers c.args.objects.now p c.arrive.new.unsaid.kept) (sym c.in-Err.ensures.none)
    (subst (λ u. Covers c.args.objects.now c.args.proxies.now u.kept) (sym c.in-Err.ensures.same) c.requires.covered))
