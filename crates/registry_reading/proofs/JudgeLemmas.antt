-- From the places at which the tests of the rules find an entity to what is refused.
use Rattle.std.proofs.Common.{◌≡◌, ℕ, zero, suc, ◌<◌, ◌≤◌, length, inl, inr, Bool, false, List, [], ◌∷◌, Option, None, Some, arith, refl, sym, ap, subst, ◌∙◌}
use Rattle.std.specs.List.{list_any, position}
use Rattle.std.specs.Prelude.{slice_get, Result, Ok, Err, IfErr, OnOk, not}
use Rattle.uno_model.specs.Entities as plain
use Rattle.uno_model.proofs.Options.{same_some}
use Rattle.registry_text_model.specs.Reading.{BreaksRule}
use Rattle.registry_text_model.specs.Rules as r
use Rattle.registry_text_model.specs.Rules.{Rule, number_of, AllKeep}
use Rattle.registry_text_model.specs.BasesAreOfTheirKind.{bases_are_of_their_kind}
use Rattle.registry_text_model.specs.NamesDiffer.{names_differ}
use Rattle.registry_text_model.specs.NoCircles.{IsOnNoCircle}
use Rattle.registry_text_model.specs.OneWayMethods.{one_way_gives_nothing}
use Rattle.registry_text_model.specs.RaisedExceptions.{raises_exceptions}
use Rattle.registry_text_model.specs.ConstantValues.{constants_are_in_range}
use Rattle.registry_text_model.specs.ServiceParts.{services_have_parts}
use Rattle.registry_text_model.specs.SingletonTargets.{singletons_have_targets}
use Rattle.registry_text_model.specs.TypesAtTheirPlaces.{types_stand_at_their_places}
use Rattle.registry_text_model.specs.WholeWithinLimits.{is_whole_within_limits}
use Rattle.registry_text_model.proofs.SoundLaws.{no_circle}
use Rattle.uno_model.specs.Circles.{HasNoCircle}
use Rattle.uno_model.specs.Registry.{leads_to}
use Rattle.uno_entities.specs.Entities.{entity_of, entities_of}
use Rattle.uno_entities.specs.declared.entity.Entity.{Entity}
use Rattle.registry_rules.specs.First.{FindsFirst}
use Rattle.registry_reading_model.specs.Heads.{Head}
use Rattle.registry_reading_model.proofs.RuleOrder.{bases_at, all_bases, names_at, all_names, one_way_at, all_one_way, raised_at, all_raised, constant_values_at, all_constant_values}
use Rattle.registry_reading_model.proofs.RuleOrder.{services_at, all_services, singletons_at, all_singletons, types_at, all_types, whole_at, all_whole, circles_at, all_circles, lesser_than_1, same_number}
use Rattle.registry_reading_model.specs.Whole.{ReadWhole}
use Rattle.registry_reading_model.proofs.RulePlaces as full
use Rattle.registry_reading_model.proofs.RulePlaces.{BreaksAtPlace, position_mapped}
use Rattle.registry_reading_model.proofs.BrokenFirst.{items_or_other}
use Rattle.registry_reading_model.proofs.FinalLaws.{values_kept}
use Rattle.std.proofs.lemmas.List.Quantifiers.{position-Some}
use Rattle.std.proofs.lemmas.Bool.{cases_lt}
use Rattle.registry_reading_model.proofs.RuleLines as lines
use Rattle.registry_reading_model.proofs.RuleLines.{head_at, beyond_at}
use Rattle.registry_reading.specs.declared.error.RegError.{RegError}
use Rattle.registry_reading.specs.declared.error.RegError.TheVariants as error
use Rattle.registry_reading.specs.Judging.{line_at, line_of_head, line_of_entity, verdict, IsBroken, Refuses, LesserKept, NoneBeyond, KeepsAll}

module _ (heads : List Head) (reg : List plain.Entity) where
  -- the line that the code gives is that of the entity
  rule_line : (rule : Rule) → (number_of r.values < number_of rule → list_any (λ h. h.beyond) heads ≡ false) → (place : ℕ) → BreaksAtPlace reg rule place
      → (bytes : List ℕ) → ReadWhole bytes heads reg → BreaksRule bytes rule (line_at heads reg place)
  unfolding line_at
  rule_line rule none place at bytes read =
      let head = head_at bytes heads reg read rule none place at.0 at.1 at in
      let line : line_of_entity heads (slice_get reg place) ≡ head.0.line = ap (line_of_entity heads) at.1 ∙ ap line_of_head head.1 in
      subst (BreaksRule bytes rule) (sym line) (lines.line_at bytes heads reg read rule none place at.0 at.1 at head.0 head.1)

  -- with the rule on the values of items, which what was read keeps
  pub with_values : (rule : Rule) → LesserKept reg rule → (bytes : List ℕ) → ReadWhole bytes heads reg → full.LesserKept reg rule
  with_values rule lesser bytes read l low =
      elim (items_or_other l) [ inl items ↦ subst (AllKeep reg) (sym items) (values_kept bytes heads reg read) | inr other ↦ lesser l other low ]

  pub refused_at : (rule : Rule) (n : ℕ) (o : Option ℕ) (e : RegError) → number_of rule ≡ n
      → (number_of r.values < number_of rule → list_any (λ h. h.beyond) heads ≡ false)
      → ((bytes : List ℕ) → ReadWhole bytes heads reg → (place : ℕ) → o ≡ Some place → BreaksAtPlace reg rule place)
      → verdict n heads reg o ≡ Some e → Refuses heads reg e
  refused_at rule n None e is none at found = absurd cc
  refused_at rule n (Some place) e is none at found =
      subst (Refuses heads reg) (same_some found)
      (λ bytes read. record { rule = rule; numbered = is; breaks = rule_line rule none place (at bytes read place refl) bytes read })

  pub none_found : (n : ℕ) (o : Option ℕ) → verdict n heads reg o ≡ None → o ≡ None
  none_found n None none = refl
  none_found n (Some place) none = absurd cc

-- ---- what is asked of a call's result, from what it says

pub on_ok : {X E A B : Type 0} (r : Result X E) → (A → B) → OnOk r A → OnOk r B
on_ok (Ok x) f a = f a
on_ok (Err e) f a = tt

pub on_err : {X E : Type 0} (P Q : E → Type 0) (r : Result X E) → ((e : E) → P e → Q e) → IfErr r P → IfErr r Q
on_err P Q (Ok x) f a = tt
on_err P Q (Err e) f a = f e a

at_most_eleven : (rule : Rule) → number_of rule ≤ 11
at_most_eleven r.bases = omega arith
at_most_eleven r.circles = omega arith
at_most_eleven r.names = omega arith
at_most_eleven r.one_way = omega arith
at_most_eleven r.raised = omega arith
at_most_eleven r.values = omega arith
at_most_eleven r.constant_values = omega arith
at_most_eleven r.services = omega arith
at_most_eleven r.singletons = omega arith
at_most_eleven r.types = omega arith
at_most_eleven r.whole = omega arith

-- ---- rule by rule

module _ (heads : List Head) (es : List Entity) where
  abbrev reg : List plain.Entity
  reg = entities_of es

  placed : (P : plain.Entity → Bool) (o : Option ℕ) → o ≡ position (λ e. not (P (entity_of e))) es → position (λ e. not (P e)) reg ≡ o
  placed P o at = sym (position_mapped entity_of (λ e. not (P e)) es) ∙ sym at

  pub bases_refused : (o : Option ℕ) (e : RegError) → o ≡ position (λ e. not (bases_are_of_their_kind reg (entity_of e))) es → verdict 1 heads reg o ≡ Some e → Refuses heads reg e
  bases_refused o e at found = refused_at heads reg r.bases 1 o e refl (λ low. absurd (omega (arith, low))) (λ bytes read place is. bases_at reg (lesser_than_1 reg) place (placed (λ e. bases_are_of_their_kind reg e) o at ∙ is)) found

  pub bases_kept : (o : Option ℕ) → o ≡ position (λ e. not (bases_are_of_their_kind reg (entity_of e))) es → verdict 1 heads reg o ≡ None → AllKeep reg r.bases
  bases_kept o at none = all_bases reg (placed (λ e. bases_are_of_their_kind reg e) o at ∙ none_found heads reg 1 o none)

  pub names_refused : (o : Option ℕ) (e : RegError) → LesserKept reg r.names → o ≡ position (λ e. not (names_differ reg (entity_of e))) es → verdict 3 heads reg o ≡ Some e → Refuses heads reg e
  names_refused o e lesser at found = refused_at heads reg r.names 3 o e refl (λ low. absurd (omega (arith, low))) (λ bytes read place is. names_at reg (with_values heads reg r.names lesser bytes read) place (placed (λ e. names_differ reg e) o at ∙ is)) found

  pub names_kept : (o : Option ℕ) → o ≡ position (λ e. not (names_differ reg (entity_of e))) es → verdict 3 heads reg o ≡ None → AllKeep reg r.names
  names_kept o at none = all_names reg (placed (λ e. names_differ reg e) o at ∙ none_found heads reg 3 o none)

  pub one_way_refused : (o : Option ℕ) (e : RegError) → LesserKept reg r.one_way → o ≡ position (λ e. not (one_way_gives_nothing (entity_of e))) es → verdict 4 heads reg o ≡ Some e → Refuses heads reg e
  one_way_refused o e lesser at found = refused_at heads reg r.one_way 4 o e refl (λ low. absurd (omega (arith, low))) (λ bytes read place is. one_way_at reg (with_values heads reg r.one_way lesser bytes read) place (placed (λ e. one_way_gives_nothing e) o at ∙ is)) found

  pub one_way_kept : (o : Option ℕ) → o ≡ position (λ e. not (one_way_gives_nothing (entity_of e))) es → verdict 4 heads reg o ≡ None → AllKeep reg r.one_way
  one_way_kept o at none = all_one_way reg (placed (λ e. one_way_gives_nothing e) o at ∙ none_found heads reg 4 o none)

  pub raised_refused : (o : Option ℕ) (e : RegError) → LesserKept reg r.raised → o ≡ position (λ e. not (raises_exceptions reg (entity_of e))) es → verdict 5 heads reg o ≡ Some e → Refuses heads reg e
  raised_refused o e lesser at found = refused_at heads reg r.raised 5 o e refl (λ low. absurd (omega (arith, low))) (λ bytes read place is. raised_at reg (with_values heads reg r.raised lesser bytes read) place (placed (λ e. raises_exceptions reg e) o at ∙ is)) found

  pub raised_kept : (o : Option ℕ) → o ≡ position (λ e. not (raises_exceptions reg (entity_of e))) es → verdict 5 heads reg o ≡ None → AllKeep reg r.raised
  raised_kept o at none = all_raised reg (placed (λ e. raises_exceptions reg e) o at ∙ none_found heads reg 5 o none)

  pub constant_values_refused : (o : Option ℕ) (e : RegError) → LesserKept reg r.constant_values → NoneBeyond heads → o ≡ position (λ e. not (constants_are_in_range (entity_of e))) es → verdict 7 heads reg o ≡ Some e → Refuses heads reg e
  constant_values_refused o e lesser long at found = refused_at heads reg r.constant_values 7 o e refl (λ low. long) (λ bytes read place is. constant_values_at reg (with_values heads reg r.constant_values lesser bytes read) place (placed (λ e. constants_are_in_range e) o at ∙ is)) found

  pub constant_values_kept : (o : Option ℕ) → o ≡ position (λ e. not (constants_are_in_range (entity_of e))) es → verdict 7 heads reg o ≡ None → AllKeep reg r.constant_values
  constant_values_kept o at none = all_constant_values reg (placed (λ e. constants_are_in_range e) o at ∙ none_found heads reg 7 o none)

  pub services_refused : (o : Option ℕ) (e : RegError) → LesserKept reg r.services → NoneBeyond heads → o ≡ position (λ e. not (services_have_parts reg (entity_of e))) es → verdict 8 heads reg o ≡ Some e → Refuses heads reg e
  services_refused o e lesser long at found = refused_at heads reg r.services 8 o e refl (λ low. long) (λ bytes read place is. services_at reg (with_values heads reg r.services lesser bytes read) place (placed (λ e. services_have_parts reg e) o at ∙ is)) found

  pub services_kept : (o : Option ℕ) → o ≡ position (λ e. not (services_have_parts reg (entity_of e))) es → verdict 8 heads reg o ≡ None → AllKeep reg r.services
  services_kept o at none = all_services reg (placed (λ e. services_have_parts reg e) o at ∙ none_found heads reg 8 o none)

  pub singletons_refused : (o : Option ℕ) (e : RegError) → LesserKept reg r.singletons → NoneBeyond heads → o ≡ position (λ e. not (singletons_have_targets reg (entity_of e))) es → verdict 9 heads reg o ≡ Some e → Refuses heads reg e
  singletons_refused o e lesser long at found = refused_at heads reg r.singletons 9 o e refl (λ low. long) (λ bytes read place is. singletons_at reg (with_values heads reg r.singletons lesser bytes read) place (placed (λ e. singletons_have_targets reg e) o at ∙ is)) found

  pub singletons_kept : (o : Option ℕ) → o ≡ position (λ e. not (singletons_have_targets reg (entity_of e))) es → verdict 9 heads reg o ≡ None → AllKeep reg r.singletons
  singletons_kept o at none = all_singletons reg (placed (λ e. singletons_have_targets reg e) o at ∙ none_found heads reg 9 o none)

  pub types_refused : (o : Option ℕ) (e : RegError) → LesserKept reg r.types → NoneBeyond heads → o ≡ position (λ e. not (types_stand_at_their_places reg (entity_of e))) es → verdict 10 heads reg o ≡ Some e → Refuses heads reg e
  types_refused o e lesser long at found = refused_at heads reg r.types 10 o e refl (λ low. long) (λ bytes read place is. types_at reg (with_values heads reg r.types lesser bytes read) place (placed (λ e. types_stand_at_their_places reg e) o at ∙ is)) found

  pub types_kept : (o : Option ℕ) → o ≡ position (λ e. not (types_stand_at_their_places reg (entity_of e))) es → verdict 10 heads reg o ≡ None → AllKeep reg r.types
  types_kept o at none = all_types reg (placed (λ e. types_stand_at_their_places reg e) o at ∙ none_found heads reg 10 o none)

  pub whole_refused : (o : Option ℕ) (e : RegError) → LesserKept reg r.whole → NoneBeyond heads → o ≡ position (λ e. not (is_whole_within_limits reg (entity_of e))) es → verdict 11 heads reg o ≡ Some e → Refuses heads reg e
  whole_refused o e lesser long at found = refused_at heads reg r.whole 11 o e refl (λ low. long) (λ bytes read place is. whole_at reg (with_values heads reg r.whole lesser bytes read) place (placed (λ e. is_whole_within_limits reg e) o at ∙ is)) found

  pub whole_kept : (o : Option ℕ) → o ≡ position (λ e. not (is_whole_within_limits reg (entity_of e))) es → verdict 11 heads reg o ≡ None → AllKeep reg r.whole
  whole_kept o at none = all_whole reg (placed (λ e. is_whole_within_limits reg e) o at ∙ none_found heads reg 11 o none)

  -- an entity on a circle
  pub circles_refused : (o : Option ℕ) (e : RegError) → LesserKept reg r.circles → FindsFirst reg (IsOnNoCircle reg) o → verdict 2 heads reg o ≡ Some e → Refuses heads reg e
  circles_refused None e lesser finds found = absurd cc
  circles_refused (Some place) e lesser finds found =
      refused_at heads reg r.circles 2 (Some place) e refl (λ low. absurd (omega (arith, low)))
      (λ bytes read other is.
      subst (BreaksAtPlace reg r.circles) (same_some is)
      (circles_at reg (with_values heads reg r.circles lesser bytes read) place finds.within finds.broken finds.before)) found

  pub circles_kept : (o : Option ℕ) → FindsFirst reg (IsOnNoCircle reg) o → verdict 2 heads reg o ≡ None → AllKeep reg r.circles
  circles_kept None finds none = all_circles reg finds
  circles_kept (Some place) finds none = absurd cc

  pub none_on_circles : LesserKept reg r.names → HasNoCircle (leads_to reg)
  none_on_circles lesser = no_circle reg (lesser r.circles (λ e. absurd (omega (arith, ap number_of e))) (omega arith))

  pub none_on_circles_still : LesserKept reg r.whole → HasNoCircle (leads_to reg)
  none_on_circles_still lesser = no_circle reg (lesser r.circles (λ e. absurd (omega (arith, ap number_of e))) (omega arith))

  -- a value beyond those of `long`
  inside : (hs : List Head) (k : ℕ) → k < length hs → slice_get hs k ≡ None → ⊥
  inside [] k low none = omega (arith, low)
  inside (h ∷ hs) zero low none = cc
  inside (h ∷ hs) (suc k) low none = inside hs k (omega arith) none

  found_there : (hs : List Head) (place : ℕ) → position (λ (h : Head). h.beyond) hs ≡ Some place → slice_get hs place ≡ None → ⊥
  found_there [] place found none = cc
  found_there (h ∷ hs) place found none = inside (h ∷ hs) place (position-Some (λ (g : Head). g.beyond) (h ∷ hs) place h found).0 none

  pub values_refused : (line place : ℕ) → LesserKept reg r.values → position (λ h. h.beyond) heads ≡ Some place → line_of_head (slice_get heads place) ≡ line
      → Refuses heads reg (error.Rule 6 line)
  values_refused line place lesser at is bytes read = by_head (slice_get heads place) refl
    where
      by_head : (o : Option Head) → slice_get heads place ≡ o → IsBroken bytes 6 line
      by_head None none = absurd (found_there heads place at none)
      by_head (Some h) some =
          record {
            rule = r.values;
            numbered = refl;
            breaks =
                subst (BreaksRule bytes r.values) (sym (ap line_of_head some) ∙ is)
                (beyond_at bytes heads reg read (with_values heads reg r.values lesser bytes read) place h some at);
          }

  -- ---- one rule more

  pub one_more : (rule next : Rule) → number_of next ≡ suc (number_of rule) → LesserKept reg rule → AllKeep reg rule → LesserKept reg next
  one_more rule next is lesser kept l other low =
      elim (cases_lt (number_of l) (number_of rule))
      [ inl below ↦ lesser l other below | inr above ↦ subst (AllKeep reg) (sym (same_number l rule (omega (arith, low, above, is)))) kept ]

  pub over_values : LesserKept reg r.values → LesserKept reg r.constant_values
  over_values lesser l other low =
      elim (cases_lt (number_of l) 6)
      [ inl below ↦ lesser l other below | inr above ↦ absurd (other (same_number l r.values (omega (arith, low, above)))) ]

  pub none_lesser : LesserKept reg r.bases
  none_lesser l other low = lesser_than_1 reg l low

  pub all_of_them : LesserKept reg r.whole → NoneBeyond heads → AllKeep reg r.whole → KeepsAll heads reg
  all_of_them lesser long whole =
      record {
        long = long;
        others = λ rule other. elim (cases_lt (number_of rule) 11)
            [ inl below ↦ lesser rule other below | inr above ↦ subst (AllKeep reg) (sym (same_number rule r.whole (omega (arith, above, at_most_eleven rule)))) whole ];
      }
