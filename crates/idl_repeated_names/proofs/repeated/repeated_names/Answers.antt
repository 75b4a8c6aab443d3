use Rattle.std.proofs.Common.{IfOk, IsTrue, List, ap, map, subst, sym, ◌∙◌}
use Rattle.std.specs.List.{AllByRecursion, flat_map, list_all}
use Rattle.idl_joint_places.specs.Circles.{FindsLeast}
use Rattle.idl_meaning_model.specs.Declarations.{Declared}
use Rattle.idl_meaning_model.specs.FromFiles.{has_identifiers}
use Rattle.idl_names.specs.Collected.{declared_of}
use Rattle.idl_repeated_names.specs.Over.{IsNamed, told}
use Rattle.idl_repeated_names.proofs.RepeatedLemmas.{all_told, of_entities}
use Rattle.idl_rules_model.specs.NamesDiffer.{repeated_names}
use Rattle.idl_repeated_names.proofs.repeated.repeated_names.Goals as goal

pub returns : goal.returns
returns c =
    let ds : List Declared = map (declared_of c.args.paths.now) c.args.all.now in
    let slice = c.as_slice.ensures.value in
    let same = ap (map (told c.args.paths.now)) slice ∙ all_told c.args.paths.now c.args.all.now c.in_ok-entries.entries.items c.in_ok-entries.ensures in
    subst (λ ps. IfOk c.repeated_among.result (FindsLeast ps)) (of_entities ds c.args.registry.now ds)
    (subst (λ (ks : List Declared). IfOk c.repeated_among.result (FindsLeast (flat_map (repeated_names ks c.args.registry.now) ks))) same
    (c.repeated_among.ensures c.args.paths.now (subst (AllByRecursion (IsNamed c.args.paths.now)) (sym slice) c.in_ok-entries.ensures.named)
    (subst (λ (ks : List Declared). IsTrue (list_all has_identifiers ks)) (sym same) c.requires.identifiers) c.in_ok-built.ensures))
