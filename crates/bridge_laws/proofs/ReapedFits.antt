-- An object that is reaped leaves a side of which all may be said.
use Rattle.std.proofs.Common.{◌≡◌, ◌≢◌, ℕ, suc, ◌≤◌, ◌==◌, Bool, true, false, not, if◌then◌else◌, List, [], ◌∷◌, filter, find, Option, None, Some, slice_get, sym, ap, ◌∙◌, arith}
use Rattle.std.specs.List.{AllByRecursion}
use Rattle.std.specs.Option.{option_map}
use Rattle.table_model.specs.Holdings.{Hold}
use Rattle.table_model.specs.declared.holder.Holder.TheVariants as holder
use Rattle.plan_model.specs.Plans.{first_objects}
use Rattle.bridge_laws.specs.Counting.{total}
use Rattle.bridge_laws.proofs.LivingLaws.{AllCovered}
use Rattle.bridge_laws.proofs.OccurrenceLaws.{times, objects_have}
use Rattle.bridge_laws.proofs.ReapingLaws.{MayGo, lowest_may_go}
use Rattle.bridge_laws.proofs.SideLaws.{stacks_have}
use Rattle.bridge_laws.proofs.Sums.{total_filter, found_at_most}
use Rattle.bridge_model.specs.Going.{reaps_object, reaps}
use Rattle.bridge_model.specs.Objects.{may_go, lowest, without_object}
use Rattle.bridge_model.specs.References.{refs_of_values}
use Rattle.bridge_model.specs.Settings.{Setting}
use Rattle.bridge_model.specs.Sides.{Object, Side, stands}
use Rattle.bridge_model.specs.Steps.{reaps_some}
use Rattle.bridge_laws.proofs.Fine.{wrong}
use Rattle.bridge_laws.proofs.FramesFit.{behaviour_at}
use Rattle.bridge_laws.proofs.TypedGiven.{IsGiven}
use Rattle.bridge_laws.proofs.ObjectsFit.{ObjectFits, object_wrong, ObjectsFit}
use Rattle.bridge_laws.proofs.SideFits.{SideFits}
use Rattle.bridge_laws.proofs.TablesFit.{TablesFit}
use Rattle.bridge_laws.proofs.CreatedFits.{place_within}
use Rattle.bridge_laws.proofs.TableLaws.{loses_all_fits, lets_go_all_fits}
use Rattle.bridge_laws.proofs.ReapingFits.{numbered_kept, held_stays, sent_stays, stacks_stay, objects_stay}

-- ---- an object goes

all_filter : {X : Type 0} (P : X → Type 0) (keeps : X → Bool) (xs : List X) → AllByRecursion P xs → AllByRecursion P (filter keeps xs)
all_filter P keeps [] all = tt
all_filter P keeps (x ∷ xs) all = by_test (keeps x) (all_filter P keeps xs all.1)
  where
    by_test : (b : Bool) → AllByRecursion P (filter keeps xs) → AllByRecursion P (if b then x ∷ filter keeps xs else filter keeps xs)
    by_test true rest = (all.0, rest)
    by_test false rest = rest

module _ (g : Setting) (given : IsGiven g) (most : ℕ) (s : Side) (o : Object) (found : lowest g s.tables ≡ Some o) (covered : AllCovered g s) (fit : SideFits g most s) where
  may : MayGo g s.tables o
  may = lowest_may_go g s.tables o found

  objects_held : (h : Hold) → objects_have h fit.os ≤ times h s.tables.holdings
  objects_held h = let all = covered h in let same = ap (objects_have h) fit.tables.same in omega arith

  stacks_held : (h : Hold) → stacks_have g h s.stacks ≤ times h s.tables.holdings
  stacks_held h = let all = covered h in omega arith

  all_stay : total (object_wrong g (without_object o.number fit.os)) fit.os ≡ 0
  all_stay = objects_stay g fit.os o.number s.tables.holdings may.unheld fit.os objects_held fit.objects.fine

  apart : (n k : ℕ) → slice_get (first_objects g.plan) n ≡ Some k → o.number ≢ suc n
  apart n k is same = let within = place_within (first_objects g.plan) n k is in let later = may.later in omega arith

  left_fit : ObjectsFit g (without_object o.number fit.os) fit.made
  unfolding without_object behaviour_at
  left_fit =
      let stay = all_stay in
      let fewer = total_filter (object_wrong g (without_object o.number fit.os)) (λ k. not (o.number == k.number)) fit.os in
      record {
        each = all_filter (ObjectFits g fit.made) (λ k. not (o.number == k.number)) fit.os fit.objects.each;
        fine = omega arith;
        first = λ n k within is. ap (option_map (λ o. o.behaviour)) (numbered_kept o.number (suc n) fit.os (apart n k is)) ∙ fit.objects.first n k within is;
        few = fit.objects.few;
      }

  tables_left : TablesFit g (without_object o.number fit.os) fit.made (record s.tables { objects = without_object o.number s.tables.objects })
  tables_left =
      record {
        same = ap (without_object o.number) fit.tables.same;
        counted = fit.tables.counted;
        held = held_stays g fit.os o.number s.tables.holdings may.unheld ∙ fit.tables.held;
        sent = sent_stays g fit.os o.number s.tables.stubs may.unsent ∙ fit.tables.sent;
        sayable = fit.tables.sayable;
      }

  its_fields : total (wrong g (without_object o.number fit.os)) (refs_of_values o.fields) ≡ 0
  unfolding lowest object_wrong
  its_fields =
      let stay = all_stay in
      let there : find (may_go g s.tables) fit.os ≡ Some o = ap (find (may_go g s.tables)) (sym fit.tables.same) ∙ found in
      let one = found_at_most (object_wrong g (without_object o.number fit.os)) (may_go g s.tables) o fit.os there in omega arith

  reaped_by : (b : Bool) → TablesFit g (without_object o.number fit.os) fit.made (reaps_object g b o s.tables)
  reaped_by true =
      lets_go_all_fits g given (without_object o.number fit.os) fit.made (holder.Object o.number) (refs_of_values o.fields)
      (record s.tables { objects = without_object o.number s.tables.objects }) its_fields tables_left
  reaped_by false =
      loses_all_fits g given (without_object o.number fit.os) fit.made (holder.Object o.number) (refs_of_values o.fields)
      (record s.tables { objects = without_object o.number s.tables.objects }) tables_left

  pub reaps_fits : SideFits g most (reaps g o s)
  unfolding reaps
  reaps_fits =
      record {
        os = without_object o.number fit.os;
        made = fit.made;
        objects = left_fit;
        tables = reaped_by (stands s);
        stacks = stacks_stay g fit.os o.number s.tables.holdings may.unheld s.stacks stacks_held fit.stacks;
        apart = fit.apart;
        heard = fit.heard;
        opened = fit.opened;
        counted = fit.counted;
      }

pub reaps_some_fits : (g : Setting) → IsGiven g → (most : ℕ) (o : Option Object) (s : Side) → lowest g s.tables ≡ o → AllCovered g s → SideFits g most s → SideFits g most (reaps_some g o s)
reaps_some_fits g given most None s found covered fit = fit
reaps_some_fits g given most (Some o) s found covered fit = reaps_fits g given most s o found covered fit
