use Rattle.std.proofs.Common.{ap, sym, ◌∙◌}
use Rattle.std.specs.Result.{result_ok}
use Rattle.table_model.specs.Pair.{pair}
use Rattle.bridge_tables.proofs.CoverSteps.{unheld_covers, many_covers, bare_covers, freed_covers, at_none}
use Rattle.bridge_tables.proofs.covering.take_out.Goals as goal

pub returns-in_default-clause-covers : goal.returns-in_default-clause-covers
returns-in_default-clause-covers c = λ kept covered.
    unheld_covers c.args.holder (pair c.args.oid.now c.args.face.now) c.args.objects.now c.let_go.new.self c.args.proxies.now kept covered c.let_go.ensures.gone (result_ok c.let_go.result) (ap result_ok c.in_default.is) c.let_go.ensures.answer

pub returns-then-not-last-clause-covers : goal.returns-then-not-last-clause-covers
returns-then-not-last-clause-covers c = λ kept covered.
    many_covers c.args.holder (pair c.args.oid.now c.args.face.now) c.args.objects.now c.let_go.new.self c.args.proxies.now kept covered c.let_go.ensures.gone (result_ok c.let_go.result) c.in-Ok.last
    (ap result_ok c.in-Ok.is) c.let_go.ensures.answer c.if-not-last.true

pub returns-in_err-proxy-clause-covers : goal.returns-in_err-proxy-clause-covers
returns-in_err-proxy-clause-covers c =
    at_none c.from_residual.result
    (λ kept covered.
    bare_covers c.args.holder (pair c.args.oid.now c.args.face.now) c.args.objects.now c.let_go.new.self c.args.proxies.now kept covered c.let_go.ensures.gone (result_ok c.let_go.result) c.in-Ok.last
    (ap result_ok c.in-Ok.is) c.let_go.ensures.answer c.if-not-last.false (sym c.find.ensures.number ∙ c.in_err-proxy.was))

pub returns-clause-less : goal.returns-clause-less
returns-clause-less c = λ kept covered.
    freed_covers c.args.holder (pair c.args.oid.now c.args.face.now) c.args.objects.now c.let_go.new.self c.args.proxies.now kept covered c.let_go.ensures.gone (result_ok c.let_go.result) c.in-Ok.last
    (ap result_ok c.in-Ok.is) c.let_go.ensures.answer c.if-not-last.false c.in_ok-proxy.proxy (sym c.find.ensures.number ∙ c.in_ok-proxy.was) c.take_release.new.self
    (c.take_release.ensures.freed (pair c.args.oid.now c.args.face.now) (sym c.find.ensures.number ∙ c.in_ok-proxy.was))
