-- The rule on what is whole and within the limits, of one entity.
use Rattle.std.proofs.Common.{◌≡◌, ℕ, ◌<◌, ◌≤◌, Bool, true, false, ◌&&◌, List, length, get_or, replicate, Some, refl, sym, subst, ◌∙◌}
use Rattle.std.specs.Prelude.{slice_get, Result, IfOk, IsTrue, ◌↔◌}
use Rattle.std.proofs.lemmas.Bool.{le-leb, leb-true}
use Rattle.std.proofs.lemmas.List.{length-map, length-replicate}
use Rattle.std.proofs.lemmas.Result.{IfOk-weaker}
use Rattle.uno_model.specs.Entities as plain
use Rattle.uno_model.specs.Functions.{functions_of}
use Rattle.uno_model.specs.Sound.{is_complete, has_member, is_within_limits, HasFewFunctions}
use Rattle.uno_entities.specs.Counts.{FewAt, KnownFew}
use Rattle.uno_entities.specs.Entities.{entities_of, entity_of}
use Rattle.uno_entities.specs.declared.entity.Entity.{Entity}
use Rattle.uno_entities.proofs.FewLemmas.{few_at_each}
use Rattle.uno_entities.proofs.SpreadLemmas.{replicate_unmarked}
use Rattle.registry_text_model.specs.WholeWithinLimits.{has_few_functions, is_whole_within_limits}
use Rattle.rules_over_bases.specs.Known.{KeepsAt}
use Rattle.rules_over_bases.proofs.FirstLemmas.{test_read}
use Rattle.rules_over_bases.proofs.TwinLaws.{same_tests}

-- all are known to have few functions, or none is
pub few_known : (es : List Entity) (few : Bool) (known : List Bool) → IsTrue few ↔ HasFewFunctions (entities_of es) → known ≡ replicate (length es) few
    → KnownFew (entities_of es) known
few_known es true known says is =
    subst (KnownFew (entities_of es)) (sym is) (record {
      one_each = length-replicate (length es) true ∙ sym (length-map es entity_of);
      few = λ place m. few_at_each (entities_of es) (says.0 refl) place;
    })
few_known es false known says is =
    subst (KnownFew (entities_of es)) (sym is) (record {
      one_each = length-replicate (length es) false ∙ sym (length-map es entity_of);
      few = λ place m. absurd (replicate_unmarked (length es) place m);
    })

-- ---- one test that fails

first_fails : (a b c d : Bool) → a ≡ false → false ≡ ((a && b) && (c && d))
first_fails true b c d is = let bad : true ≡ false = is in absurd cc
first_fails false b c d is = refl

second_fails : (a b c d : Bool) → b ≡ false → false ≡ ((a && b) && (c && d))
second_fails true true c d is = let bad : true ≡ false = is in absurd cc
second_fails true false c d is = refl
second_fails false b c d is = refl

third_fails : (a b c d : Bool) → c ≡ false → false ≡ ((a && b) && (c && d))
third_fails true true true d is = let bad : true ≡ false = is in absurd cc
third_fails true true false d is = refl
third_fails true false c d is = refl
third_fails false b c d is = refl

last_decides : (a b c d : Bool) → a ≡ true → b ≡ true → c ≡ true → d ≡ ((a && b) && (c && d))
last_decides a b c d first second third = rw (first, second, third) refl

-- ---- the rule

pub incomplete : (es : List Entity) (place : ℕ) (d : Entity) (answer : Bool) → place < length es → d ≡ get_or es place d → answer ≡ is_complete (entity_of d) → answer ≡ false
    → KeepsAt (is_whole_within_limits (entities_of es)) (entities_of es) place false
unfolding is_whole_within_limits
incomplete es place d answer within read says is e at =
    first_fails (is_complete e) (has_member (entities_of es) e) (is_within_limits e) (has_few_functions (entities_of es) e)
    (sym (test_read is_complete es place d within read e at) ∙ sym says ∙ is)

pub beyond_limits : (es : List Entity) (place : ℕ) (d : Entity) (answer : Bool) → place < length es → d ≡ get_or es place d → answer ≡ is_within_limits (entity_of d) → answer ≡ false
    → KeepsAt (is_whole_within_limits (entities_of es)) (entities_of es) place false
unfolding is_whole_within_limits
beyond_limits es place d answer within read says is e at =
    third_fails (is_complete e) (has_member (entities_of es) e) (is_within_limits e) (has_few_functions (entities_of es) e)
    (sym (test_read is_within_limits es place d within read e at) ∙ sym says ∙ is)

pub memberless : (reg : List plain.Entity) (place : ℕ) (answer : Bool) → KeepsAt (has_member reg) reg place answer → answer ≡ false
    → KeepsAt (is_whole_within_limits reg) reg place false
unfolding is_whole_within_limits
memberless reg place answer keeps is e at =
    second_fails (is_complete e) (has_member reg e) (is_within_limits e) (has_few_functions reg e) (sym (keeps e at) ∙ is)

few_told : (reg : List plain.Entity) (place : ℕ) (few : Bool) (e : plain.Entity) → IsTrue few ↔ FewAt reg place → slice_get reg place ≡ Some e → few ≡ has_few_functions reg e
few_told reg place few e says at = same_tests few (has_few_functions reg e)
    (λ told. le-leb (length (functions_of reg e.name)) 65536 (says.0 told e at))
    (λ low. says.1 (λ f there. subst (λ (x : plain.Entity). length (functions_of reg x.name) ≤ 65536) (one e f (sym at ∙ there)) (leb-true (length (functions_of reg e.name)) 65536 low)))
  where
    one : (x y : plain.Entity) → Some x ≡ Some y → x ≡ y
    one x y both = cc

pub few_decides : {E : Type 0} (es : List Entity) (place : ℕ) (c d : Entity) (complete limits member : Bool) (result : Result Bool E) → place < length es
    → c ≡ get_or es place c → complete ≡ is_complete (entity_of c) → complete ≡ true → d ≡ get_or es place d → limits ≡ is_within_limits (entity_of d) → limits ≡ true
    → KeepsAt (has_member (entities_of es)) (entities_of es) place member → member ≡ true → IfOk result (λ b. IsTrue b ↔ FewAt (entities_of es) place)
    → IfOk result (λ b. KeepsAt (is_whole_within_limits (entities_of es)) (entities_of es) place b)
unfolding is_whole_within_limits
few_decides es place c d complete limits member result within read_first says_complete is_so read_next says_limits is_low keeps has says =
    IfOk-weaker result _ _
    (λ few told e at. few_told (entities_of es) place few e told at
    ∙ last_decides (is_complete e) (has_member (entities_of es) e) (is_within_limits e) (has_few_functions (entities_of es) e)
    (sym (test_read is_complete es place c within read_first e at) ∙ sym says_complete ∙ is_so) (sym (keeps e at) ∙ has)
    (sym (test_read is_within_limits es place d within read_next e at) ∙ sym says_limits ∙ is_low))
    says
