use Rattle.std.proofs.Common.{refl, sym, ap, subst, ◌∙◌, Some, codes}
use Rattle.bridge_model.specs.Entries.{made}
use Rattle.bridge_model.specs.RootRuns.{null_target, over_with}
use Rattle.bridge_laws.specs.Giving.{MayGive}
use Rattle.plan_types.specs.Statements.{root_statement_of}
use Rattle.behaviour.specs.Roots.{run_of}
use Rattle.bridge_endpoint.specs.Journals.{setting_at, side_at}
use Rattle.bridge_core.specs.Asking.{HasSmallNumber, asks}
use Rattle.bridge_core.proofs.AskLemmas.{asks_so}
use Rattle.bridge_core.proofs.MoveLemmas.{by_line}
use Rattle.bridge_core.proofs.RunAtLemmas.{asked_given_at, asked_may_at, made_given_at, small_at}
use Rattle.bridge_core.proofs.beginning.begin_statement.Goals as goal

pub make-requires-clause-gives : goal.make-requires-clause-gives
make-requires-clause-gives c =
    let e = c.args.end.now in
    let r = run_of c.args.run.now in
    let s = root_statement_of c.in-Some.statement.now in
    subst (λ wanted. MayGive (setting_at e) (made r.root c.in-Make.making.behaviour wanted)) (sym c.in_ok-wanted-in-Make.ensures)
    (made_given_at e c.know_history.ensures r c.requires.run c.requires.idle c.requires.none s (sym c.in-Some.ensures) (c.requires.goes s (sym c.in-Some.ensures))
    (record { behaviour = c.in-Make.making.behaviour; face = c.in-Make.making.face; to = c.in-Make.making.to }) (ap root_statement_of (sym c.in-Make.is)))

pub asked_by-requires-clause-small : goal.asked_by-requires-clause-small
asked_by-requires-clause-small c =
    let e = c.args.end.now in
    let r = run_of c.args.run.now in
    let s = root_statement_of c.in-Some.statement.now in
    subst (λ reg. HasSmallNumber reg r s) (sym c.registry-in-Ask.ensures.same)
    (small_at e c.know_history.ensures r c.requires.run c.requires.idle c.requires.none s (sym c.in-Some.ensures) (c.requires.goes s (sym c.in-Some.ensures)))

pub ask-requires-clause-gives : goal.ask-requires-clause-gives
ask-requires-clause-gives c =
    let e = c.args.end.now in
    let r = run_of c.args.run.now in
    let s = root_statement_of c.in-Some.statement.now in
    asked_given_at e c.know_history.ensures r c.requires.run c.requires.idle c.requires.none s (sym c.in-Some.ensures) (c.requires.goes s (sym c.in-Some.ensures)) c.in-Some-2.asked
    (λ z. c.in_ok-asked-in-Ask.ensures (setting_at e) z (sym c.registry-in-Ask.ensures.same) ∙ ap (asks z r) c.in-Some-2.is)

pub ask-requires-clause-holds : goal.ask-requires-clause-holds
ask-requires-clause-holds c =
    let e = c.args.end.now in
    let r = run_of c.args.run.now in
    let s = root_statement_of c.in-Some.statement.now in
    asked_may_at e c.know_history.ensures r c.requires.run c.requires.idle c.requires.none s (sym c.in-Some.ensures) (c.requires.goes s (sym c.in-Some.ensures)) c.in-Some-2.asked
    (c.in_ok-asked-in-Ask.ensures (setting_at e) (side_at e) (sym c.registry-in-Ask.ensures.same) ∙ ap (asks (side_at e) r) c.in-Some-2.is)

pub returns-in-Some-2 : goal.returns-in-Some-2
returns-in-Some-2 c = λ s at.
    let e = c.args.end.now in
    let r = run_of c.args.run.now in
    asks_so e c.ask.new.end r (run_of c.ask.new.run) (root_statement_of c.in-Some.statement.now) s (asks (side_at e) r (Some c.in-Some-2.asked)) c.ask.result c.in-Some.ensures
    (c.in_ok-asked-in-Ask.ensures (setting_at e) (side_at e) (sym c.registry-in-Ask.ensures.same) ∙ ap (asks (side_at e) r) c.in-Some-2.is) c.ask.ensures at

pub returns-in-None : goal.returns-in-None
returns-in-None c = λ s at.
    let e = c.args.end.now in
    let r = run_of c.args.run.now in
    let after = run_of c.says-in-None.new.run in
    asks_so e e r after (root_statement_of c.in-Some.statement.now) s (null_target r) c.says-in-None.result c.in-Some.ensures
    (c.in_ok-asked-in-Ask.ensures (setting_at e) (side_at e) (sym c.registry-in-Ask.ensures.same) ∙ ap (asks (side_at e) r) c.in-None.is)
    (by_line (null_target r) e r after (over_with (codes "null") r) c.says-in-None.result refl c.says-in-None.ensures.said c.says-in-None.ensures.kept) at
