use Rattle.std.proofs.Common.{◌∙◌, ◌++◌, OnOk, append-nil, ap, subst, sym}
use Rattle.std.specs.Option.{option_to_list}
use Rattle.uno_entities.specs.Entities.{entities_of}
use Rattle.idl_meaning_model.specs.Declarations.{full_name}
use Rattle.idl_names.specs.Collected.{declared_of}
use Rattle.idl_joint_places.specs.Circles.{AddsNodes, nodes_of}
use Rattle.idl_joint_places.specs.There.{FindsPlace}
use Rattle.idl_joint_places.proofs.ThereLemmas.{no_node, no_place, node_is}
use Rattle.idl_joint_places.proofs.circles.add_entity_node.Goals as goal

pub returns-then-is_forward : goal.returns-then-is_forward
returns-then-is_forward c =
    sym (ap (λ o. nodes_of c.args.nodes.now.items ++ option_to_list o)
    (no_node (entities_of c.args.entities.now) (declared_of c.args.paths.now c.args.declared.now) (sym c.is_forward.ensures ∙ c.if-is_forward.true))
    ∙ append-nil (nodes_of c.args.nodes.now.items))

pub returns-in_default : goal.returns-in_default
returns-in_default c =
    let reg = entities_of c.args.entities.now in
    let d = declared_of c.args.paths.now c.args.declared.now in
    sym (ap (λ o. nodes_of c.args.nodes.now.items ++ option_to_list o)
    (no_place reg d (sym c.is_forward.ensures ∙ c.if-is_forward.false) (subst (FindsPlace reg (full_name d)) c.in_default.is c.in_ok-found.ensures))
    ∙ append-nil (nodes_of c.args.nodes.now.items))

pub returns : goal.returns
returns c =
    let reg = entities_of c.args.entities.now in
    let d = declared_of c.args.paths.now c.args.declared.now in
    subst (λ o. OnOk c.add_node.result (AddsNodes c.args.nodes.now.items (option_to_list o) c.add_node.new.nodes.items))
    (sym (node_is reg d c.in-Some.place c.requires.rising (sym c.is_forward.ensures ∙ c.if-is_forward.false) (subst (FindsPlace reg (full_name d)) c.in-Some.is c.in_ok-found.ensures)))
    c.add_node.ensures
