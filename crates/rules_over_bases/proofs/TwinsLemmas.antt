-- The rule on names of one entity: its own names, and those over its bases.
use Rattle.std.proofs.Common.{◌≡◌, ℕ, ◌<◌, Bool, true, false, not, ◌&&◌, List, length, get_or, None, sym, ap, ◌∙◌}
use Rattle.std.specs.Prelude.{Result, IfOk}
use Rattle.std.specs.List.{position}
use Rattle.std.proofs.lemmas.Result.{IfOk-weaker}
use Rattle.uno_model.specs.Circles.{HasNoCircle}
use Rattle.uno_model.specs.Registry.{IsRising, leads_to}
use Rattle.uno_model.proofs.PlaceLaws.{named_there}
use Rattle.uno_entities.specs.Entities.{entities_of, entity_of, body_of}
use Rattle.uno_entities.specs.declared.entity.Entity.{Entity}
use Rattle.registry_text_model.specs.BasesAreOfTheirKind.{bases_are_of_their_kind}
use Rattle.registry_text_model.specs.NamesDiffer.{own_names_differ, all_names_differ, names_differ}
use Rattle.rules_over_bases.specs.Known.{KeepsAt, differ_over}
use Rattle.rules_over_bases.proofs.FirstLemmas.{all_keep, body_read}
use Rattle.rules_over_bases.proofs.KindLaws.{AllKnown, differ_as_asked}

-- the first rule holds
pub kinds_known : (es : List Entity) → position (λ e. not (bases_are_of_their_kind (entities_of es) (entity_of e))) es ≡ None → AllKnown (entities_of es)
unfolding bases_are_of_their_kind
kinds_known es none = all_keep (bases_are_of_their_kind (entities_of es)) es none

pub own_repeat : (es : List Entity) (place : ℕ) (d : Entity) (differ : Bool) → place < length es → differ ≡ own_names_differ (body_of (get_or es place d).body) → differ ≡ false
    → KeepsAt (names_differ (entities_of es)) (entities_of es) place false
unfolding names_differ
own_repeat es place d differ within says twins e at =
    sym (ap (λ b. b && all_names_differ (entities_of es) e.name e.body) (sym (ap own_names_differ (body_read es place d within e at)) ∙ sym says ∙ twins))

pub both_asked : (es : List Entity) (place : ℕ) (d : Entity) (differ over : Bool) → IsRising (entities_of es) → AllKnown (entities_of es)
    → HasNoCircle (leads_to (entities_of es)) → place < length es
    → differ ≡ own_names_differ (body_of (get_or es place d).body) → differ ≡ true → KeepsAt (differ_over (entities_of es)) (entities_of es) place over
    → KeepsAt (names_differ (entities_of es)) (entities_of es) place over
unfolding names_differ
both_asked es place d differ over rising known none within says all_new keeps e at =
    keeps e at ∙ differ_as_asked (entities_of es) e known none (named_there (entities_of es) place e rising at)
    ∙ sym (ap (λ b. b && all_names_differ (entities_of es) e.name e.body) (sym (ap own_names_differ (body_read es place d within e at)) ∙ sym says ∙ all_new))

pub over_as_asked : {E : Type 0} (es : List Entity) (place : ℕ) (d : Entity) (differ : Bool) (result : Result Bool E) → IsRising (entities_of es) → AllKnown (entities_of es)
    → HasNoCircle (leads_to (entities_of es)) → place < length es → differ ≡ own_names_differ (body_of (get_or es place d).body) → differ ≡ true
    → IfOk result (λ b. KeepsAt (differ_over (entities_of es)) (entities_of es) place b) → IfOk result (λ b. KeepsAt (names_differ (entities_of es)) (entities_of es) place b)
over_as_asked es place d differ result rising known none within says all_new after =
    IfOk-weaker result _ _ (λ over keeps. both_asked es place d differ over rising known none within says all_new keeps) after
