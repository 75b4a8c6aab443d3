use Rattle.std.proofs.Common.{◌∙◌, ◌++◌, OnOk, append-nil, ap, subst, sym, true}
use Rattle.uno_entities.specs.Entities.{entities_of}
use Rattle.registry_text_model.specs.WholeWithinLimits.{is_whole_within_limits}
use Rattle.idl_meaning_model.specs.Declarations.{full_name}
use Rattle.idl_names.specs.Collected.{declared_of}
use Rattle.idl_places.specs.Places.{AddsPlaces, places_of}
use Rattle.idl_joint_places.specs.There.{FindsPlace}
use Rattle.idl_joint_places.proofs.ThereLemmas.{absent, marked, skipped}
use Rattle.idl_joint_places.proofs.limits.add_if_unmarked.Goals as goal

pub returns-then-is_forward : goal.returns-then-is_forward
returns-then-is_forward c =
    let reg = entities_of c.args.entities.now in
    sym (ap (λ ps. places_of c.args.places.now.items ++ ps)
    (skipped (is_whole_within_limits reg) reg (declared_of c.args.paths.now c.args.declared.now) (sym c.is_forward.ensures ∙ c.if-is_forward.true))
    ∙ append-nil (places_of c.args.places.now.items))

pub returns-in_default : goal.returns-in_default
returns-in_default c =
    let reg = entities_of c.args.entities.now in
    let d = declared_of c.args.paths.now c.args.declared.now in
    sym (ap (λ ps. places_of c.args.places.now.items ++ ps)
    (absent (is_whole_within_limits reg) reg d (sym c.is_forward.ensures ∙ c.if-is_forward.false) (subst (FindsPlace reg (full_name d)) c.in_default.is c.in_ok-found.ensures))
    ∙ append-nil (places_of c.args.places.now.items))

pub returns : goal.returns
returns c =
    let reg = entities_of c.args.entities.now in
    let d = declared_of c.args.paths.now c.args.declared.now in
    subst (λ ps. OnOk c.add_unless.result (AddsPlaces c.args.places.now.items ps c.add_unless.new.places.items))
    (marked (is_whole_within_limits reg) c.args.entities.now d c.in-Some.place c.is_marked.result true c.args.marks.now (sym c.is_forward.ensures ∙ c.if-is_forward.false)
    (subst (FindsPlace reg (full_name d)) c.in-Some.is c.in_ok-found.ensures) c.requires.marks c.is_marked.ensures) c.add_unless.ensures
