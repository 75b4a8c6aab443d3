use Rattle.uno_model.specs.Reaches.{is_base_of}
use Rattle.std.specs.Prelude.{◌≡◌, drop}
use Rattle.std.specs.List.{list_any}
use Rattle.behaviour.proofs.exceptions.is_declared.Given as goal

-- none so far is the exception or a base of it
abbrev pub invariant-loop-base : goal.invariant-loop-base
invariant-loop-base l =
    list_any (λ base. is_base_of l.registry base l.name) (drop l.base-index l.declared) ≡ list_any (λ base. is_base_of l.registry base l.name) l.declared
