use Rattle.std.proofs.Common.{◌≡◌, ◌∙◌, sym, ap, subst, true}
use Rattle.std.specs.List.{list_all}
use Rattle.idl_meaning_model.specs.FromFiles.{is_spelled_use}
use Rattle.idl_names.specs.Collected.{declared_of}
use Rattle.idl_names.specs.Telling.{TellsUses}
use Rattle.idl_names.specs.Used.{all_used_of}
use Rattle.idl_names.proofs.TellLemmas.{uses_seen}
use Rattle.idl_names.proofs.telling.tell_in.Goals as goal

pub returns : goal.returns
returns c = λ ds tells right spelled.
    let d = declared_of c.args.paths.now c.args.declared.now in
    let seen = uses_seen d c.as_slice.result.now (ap all_used_of c.as_slice.ensures.value ∙ c.in_ok-used.ensures) in
    subst (λ us. TellsUses c.args.paths.now ds c.args.told.now us c.tell_used.new.told) seen
    (c.in_ok-tell_used.ensures ds tells right (subst (λ us. list_all is_spelled_use us ≡ true) (sym seen) spelled))
