-- At the opening all may be said: the first objects fit, and nothing else is there.
use Rattle.std.proofs.Common.{◌≡◌, ℕ, suc, ◌+◌, ◌<◌, List, [], ◌∷◌, ◌++◌, length, Some, slice_get, refl, sym, ap, subst, ◌∙◌, arith}
use Rattle.message_model.proofs.MessageArrivalLaws.{nothing_is_heard}
use Rattle.std.proofs.lemmas.List.{append_assoc, length-append}
use Rattle.uno_model.proofs.Options.{same_some}
use Rattle.plan_model.specs.Plans.{first_objects}
use Rattle.bridge_laws.specs.Counting.{total}
use Rattle.bridge_laws.proofs.LivingEffectLaws.{defaults_of_fields}
use Rattle.bridge_laws.specs.Grounded.{AreApart}
use Rattle.bridge_model.specs.Objects.{fields_of, defaults_of, makes_default, makes_all}
use Rattle.bridge_model.specs.Settings.{Setting}
use Rattle.bridge_model.specs.Sides.{Object, Tables}
use Rattle.bridge_model.specs.Steps.{no_objects, opening}
use Rattle.bridge_laws.proofs.Fine.{wrong}
use Rattle.bridge_laws.proofs.TypedGiven.{IsGiven}
use Rattle.bridge_laws.proofs.ObjectsFit.{ObjectsFit}
use Rattle.bridge_laws.proofs.SideFits.{SideFits}
use Rattle.bridge_laws.proofs.TablesFit.{held_wrong, sent_wrong, TablesFit}
use Rattle.bridge_laws.proofs.MakingFits.{defaults_fit, made_now, made_fit, makes_fits}

-- tables with so many objects made
record Opened (g : Setting) (count : ℕ) (t : Tables) : Type 0 where
  pub os : List Object
  pub objects : ObjectsFit g os count
  pub tables : TablesFit g os count t

-- the next of those that are to be made
slice_next : (before rest : List ℕ) (b : ℕ) → slice_get (before ++ b ∷ rest) (length before) ≡ Some b
slice_next [] rest b = refl
slice_next (x ∷ before) rest b = slice_next before rest b

module _ (g : Setting) (given : IsGiven g) where
  makes_all_fits : (bs before : List ℕ) (t : Tables) → first_objects g.plan ≡ before ++ bs → Opened g (length before) t → Opened g (length before + length bs) (makes_all g bs t)
  unfolding makes_all
  makes_all_fits [] before t is opened = subst (λ n. Opened g n t) (none_more (length before)) opened
    where
      none_more : (n : ℕ) → n ≡ n + 0
      none_more n = omega arith
  makes_all_fits (b ∷ bs) before t is opened =
      let all = length-append before (b ∷ bs) in let count = ap length is in let few = given.objects in
      let next : (k : ℕ) → slice_get (first_objects g.plan) (length before) ≡ Some k → b ≡ k =
      λ k at. same_some (sym (slice_next before bs b) ∙ (ap (λ l. slice_get l (length before)) (sym is) ∙ at)) in
      let fields = defaults_fit g given b in
      let fine = defaults_of_fields (wrong g opened.os) g.registry (fields_of g b) in
      let room : length before < 2000000 = omega arith in
      let more : Opened g (suc (length before)) (makes_default g b t) =
      record {
        os = made_now (length before) b (defaults_of g b) opened.os;
        objects = made_fit g given opened.os (length before) opened.objects room b (defaults_of g b) fields fine next;
        tables = makes_fits g given opened.os (length before) opened.objects room b (defaults_of g b) fields fine next t opened.tables;
      } in
      let one = length-append before (b ∷ []) in
      let longer : length (before ++ b ∷ []) ≡ suc (length before) = omega arith in
      let rest = makes_all_fits bs (before ++ b ∷ []) (makes_default g b t) (is ∙ sym (append_assoc before (b ∷ []) bs)) (subst (λ n. Opened g n (makes_default g b t)) (sym longer) more) in
      let same : length (before ++ b ∷ []) + length bs ≡ length before + suc (length bs) = omega arith in
      subst (λ n. Opened g n (makes_all g bs (makes_default g b t))) same rest

  nothing_fits : Opened g 0 (no_objects g.plan)
  unfolding total held_wrong sent_wrong
  nothing_fits =
      record {
        os = [];
        objects = record { each = tt; fine = refl; first = λ n k within is. absurd (omega arith); few = omega arith };
        tables = record { same = refl; counted = refl; held = refl; sent = refl; sayable = tt };
      }

  pub opening_fits : SideFits g (length (first_objects g.plan)) (opening g)
  unfolding opening AreApart
  opening_fits =
      let all = makes_all_fits (first_objects g.plan) [] (no_objects g.plan) refl nothing_fits in
      record {
        os = all.os;
        made = 0 + length (first_objects g.plan);
        objects = all.objects;
        tables = all.tables;
        stacks = tt;
        apart = tt;
        heard = nothing_is_heard g.registry;
        opened = omega arith;
        counted = omega arith;
      }
