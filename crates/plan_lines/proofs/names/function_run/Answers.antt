use Rattle.std.proofs.Common.{◌∙◌, take, sym, ap, refl, arith}
use Rattle.std.specs.List.{list_all}
use Rattle.uno_model.specs.Names.{goes_on_identifier}
use Rattle.plan_lines.specs.Classes.{is_ascii}
use Rattle.plan_lines.proofs.RunLemmas.{run_fits, run_in_front, accessor_run, accessor_is_ascii}
use Rattle.plan_lines.proofs.ClassLemmas.{ascii_behind}
use Rattle.plan_lines.proofs.names.function_run.Goals as goal

pub split_at-requires-2 : goal.split_at-requires-2
split_at-requires-2 c = run_fits goes_on_identifier 4 c.args.bytes.now c.split_at.result.1.now c.split-2.result.0.now (omega arith) c.split_at.ensures.back c.split-2.ensures.front

pub as_text-requires-2 : goal.as_text-requires-2
as_text-requires-2 c =
    let name = run_in_front goes_on_identifier 4 _ c.args.bytes.now c.split_at.result.1.now c.split-2.result.0.now refl c.split_at.ensures.back c.split-2.ensures.front in
    let front = accessor_is_ascii (take 4 c.args.bytes.now) (sym c.is_accessor.ensures ∙ c.if-not-is_accessor.false) in
    ap (list_all is_ascii) (c.split_at-2.ensures.front ∙ name) ∙ ascii_behind (take 4 c.args.bytes.now) c.split-2.result.0.now front c.split-2.ensures.ascii

pub returns : goal.returns
returns c =
    let name = run_in_front goes_on_identifier 4 _ c.args.bytes.now c.split_at.result.1.now c.split-2.result.0.now refl c.split_at.ensures.back c.split-2.ensures.front in
    accessor_run c.args.bytes.now c.split_at.result.1.now c.split-2.result.0.now c.split-2.result.1.now _ (sym c.is_accessor.ensures ∙ c.if-not-is_accessor.false) c.split_at.ensures.back c.split-2.ensures.front c.split-2.ensures.rest
    (c.as_text-2.ensures ∙ c.split_at-2.ensures.front ∙ name)
