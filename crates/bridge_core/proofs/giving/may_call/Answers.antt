use Rattle.std.proofs.Common.{rules, ap, sym, ◌∙◌, map, slice_get}
use Rattle.type_registry.specs.Functions.{lent_function}
use Rattle.uno_model.specs.Functions.{functions_of}
use Rattle.uno_values.specs.Values.{plain_of}
use Rattle.bridge_core.proofs.GivingLemmas.{call_given, called_fit, no_function}
use Rattle.bridge_core.proofs.giving.may_call.Goals as goal

pub returns-in_default : goal.returns-in_default
returns-in_default c = λ g root same thread.
    no_function g root c.args.registry.now c.args.oid.now c.args.face.now c.args.number (map plain_of c.args.args.now) same
    (ap (λ n. slice_get (functions_of c.args.registry.now n) c.args.number) (sym c.as_str-2.ensures) ∙ sym c.in_default.ensures)

pub returns : goal.returns
returns c = λ g root same thread.
    let found = ap (λ n. slice_get (functions_of c.args.registry.now n) c.args.number) (sym c.as_str-2.ensures) ∙ sym c.in-Some.ensures in (
      λ there.
          call_given g root c.args.registry.now c.args.oid.now c.args.face.now c.args.number (lent_function c.in-Some.function) (map plain_of c.args.args.now) same thread (search rules)
          (search rules) found (search rules) (search rules) (c.arguments_fit.ensures.0 there),
      λ may.
          c.arguments_fit.ensures.1
          (called_fit g root c.args.registry.now c.args.oid.now c.args.face.now c.args.number (lent_function c.in-Some.function) (map plain_of c.args.args.now) same found may),
    )
