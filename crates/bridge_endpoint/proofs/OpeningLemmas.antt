-- An endpoint at which nothing has happened.
use Rattle.std.proofs.Common.{◌≡◌, refl, ◌∙◌, ℕ, suc, ◌+◌, ◌≤◌, List, [], ◌∷◌, length, Some, arith}
use Rattle.plan_model.specs.Plans.{first_objects}
use Rattle.table_model.specs.declared.holder.Holder.{Holder}
use Rattle.table_model.specs.declared.holder.Holder.TheVariants as holder
use Rattle.uno_entities.specs.Tag.{IsTag}
use Rattle.uno_model.specs.BuiltIn.{HasBuiltIn}
use Rattle.uno_model.specs.Values.{Plain, Ref, null, own, peer}
use Rattle.bridge_journal.specs.Logs.{empty_log}
use Rattle.bridge_model.specs.Histories.{nothing_told, replay, tells_all}
use Rattle.bridge_model.specs.Objects.{defaults_of, makes_all, makes_default, makes_object}
use Rattle.bridge_model.specs.References.{gains, gains_all, refs_of_values}
use Rattle.bridge_model.specs.Settings.{Setting}
use Rattle.bridge_model.specs.Sides.{Tables}
use Rattle.bridge_model.specs.Steps.{no_objects, opening}
use Rattle.bridge_laws.proofs.StepRoom.{opening_needed}
use Rattle.bridge_laws.specs.Room.{needed}
use Rattle.bridge_state.specs.EndSides.{opening_end}
use Rattle.bridge_endpoint.specs.Kept.{IsKept}
use Rattle.bridge_endpoint.specs.Entering.{IsWithin, with_room}
use Rattle.bridge_endpoint.specs.Journals.{IsSetUp}

-- how many objects were made

gains_made : (h : Holder) (r : Ref) (t : Tables) → (gains h r t).objects_made ≡ t.objects_made
gains_made h null t = refl
gains_made h (own oid face) t = refl
gains_made h (peer oid face) t = refl

gains_all_made : (h : Holder) (rs : List Ref) (t : Tables) → (gains_all h rs t).objects_made ≡ t.objects_made
unfolding gains_all
gains_all_made h [] t = refl
gains_all_made h (r ∷ rs) t = gains_all_made h rs (gains h r t) ∙ gains_made h r t

object_made : (behaviour : ℕ) (fields : List Plain) (t : Tables) → (makes_object behaviour fields t).objects_made ≡ suc t.objects_made
unfolding makes_object
object_made behaviour fields t = gains_all_made (holder.Object (suc t.objects_made)) (refs_of_values fields) _

all_made : (g : Setting) (behaviours : List ℕ) (t : Tables) → (makes_all g behaviours t).objects_made ≡ length behaviours + t.objects_made
unfolding makes_all
all_made g [] t = omega arith
all_made g (behaviour ∷ rest) t =
    let more = all_made g rest (makes_default g behaviour t) in
    let one = object_made behaviour (defaults_of g behaviour) t in omega (arith, more, one)

opening_made : (g : Setting) → needed (opening g) ≡ 2 + (opening g).tables.objects_made
unfolding opening
opening_made g =
    let all = opening_needed g in
    let made = all_made g (first_objects g.plan) (no_objects g.plan) in omega (arith, all, made)

nothing_leads : (g : Setting) → replay g [] ≡ Some (nothing_told g)
unfolding replay tells_all
nothing_leads g = refl

none_counted : (g : Setting) → (opening g).entries ≤ 0
unfolding opening
none_counted g = omega arith

pub opening_kept : (g : Setting) (roots : ℕ) → IsSetUp g → HasBuiltIn g.registry → IsTag g.tag → roots ≡ length g.plan.threads
    → IsWithin (with_room (2 + (opening g).tables.objects_made) empty_log) → IsKept g roots (opening_end g) (with_room (2 + (opening g).tables.objects_made) empty_log)
opening_kept g roots set_up built_in tag named within =
    record {
      told = nothing_told g;
      leads = nothing_leads g;
      here = refl;
      of = record { prefix = refl; first = refl; release = refl };
      set_up = set_up;
      built_in = built_in;
      tag = tag;
      gives = tt;
      named = named;
      room = (let all = opening_made g in omega (arith, all));
      counted = none_counted g;
      within = within;
    }
