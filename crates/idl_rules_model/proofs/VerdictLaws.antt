-- The rules have one verdict on files.
use Rattle.std.proofs.Common.{◌≡◌, ℕ, zero, suc, ◌<◌, ◌==◌, Bool, true, false, List, [], ◌∷◌, get_or, Result, Ok, Err, ◌⊎◌, inl, inr, refl, sym, ap, ap₂, subst, ◌∙◌, arith}
use Rattle.std.proofs.lemmas.Bool.{both_ways, cases_order, eqb-true, eq-eqb}
use Rattle.uno_model.specs.Entities.{Entity}
use Rattle.registry_text_model.specs.Rules.{Rule, number_of}
use Rattle.registry_text_model.specs.Rules as rule
use Rattle.idl_model.specs.Places.{Place, IsLeast}
use Rattle.idl_model.specs.Trees.{Tree}
use Rattle.idl_meaning_model.proofs.FaultLaws.{one_place, none_in_nothing}
use Rattle.idl_meaning_model.specs.Meaning.{meant}
use Rattle.idl_rules_model.specs.CheckVerdicts.{broken, IsFirstBroken, IsChecked}
use Rattle.idl_rules_model.proofs.LeastLaws.{has_first}

-- a rule by its number
abbrev rule_of : ℕ → Rule
rule_of n =
    get_or (rule.bases ∷ (rule.bases ∷ (rule.circles ∷ (rule.names ∷ (rule.one_way ∷ (rule.raised ∷ (rule.values ∷ (rule.constant_values
    ∷ (rule.services ∷ (rule.singletons ∷ (rule.types ∷ (rule.whole ∷ [])))))))))))) n rule.bases

back : (r : Rule) → rule_of (number_of r) ≡ r
back rule.bases = refl
back rule.circles = refl
back rule.names = refl
back rule.one_way = refl
back rule.raised = refl
back rule.values = refl
back rule.constant_values = refl
back rule.services = refl
back rule.singletons = refl
back rule.types = refl
back rule.whole = refl

same_number : (r s : Rule) → number_of r ≡ number_of s → r ≡ s
same_number r s same = sym (back r) ∙ ap rule_of same ∙ back s

one_least : (ps : List Place) (p q : Place) → IsLeast p ps → IsLeast q ps → p ≡ q
one_least ps p q first second = one_place p q (second.first p first.one) (first.first q second.one)

one_broken : (trees : List Tree) (x y : Rule × Place) → IsFirstBroken trees x.0 x.1 → IsFirstBroken trees y.0 y.1 → (number_of x.0 ≡ number_of y.0) ⊎ ((number_of x.0 < number_of y.0) ⊎ (number_of y.0 < number_of x.0))
    → ◌≡◌ {A = Rule × Place} (x.0, x.1) (y.0, y.1)
one_broken trees x y first second (inl same) =
    let rules : x.0 ≡ y.0 = same_number x.0 y.0 same in
    let places : x.1 ≡ y.1 = one_least (broken y.0 trees) x.1 y.1 (subst (λ r. IsLeast x.1 (broken r trees)) rules first.least) second.least in
    ap₂ (λ (r : Rule) (p : Place). (r, p)) rules places
one_broken trees x y first second (inr (inl below)) = absurd (none_in_nothing (broken x.0 trees) x.1 (second.lesser x.0 below) first.least.one)
one_broken trees x y first second (inr (inr above)) = absurd (none_in_nothing (broken y.0 trees) y.1 (first.lesser y.0 above) second.least.one)

pub one_verdict : (trees : List Tree) (r s : Result (List Entity) (Rule × Place)) → IsChecked trees r → IsChecked trees s → r ≡ s
one_verdict trees (Ok reg) (Ok other) first second = ap (λ e. Ok e) (first.1 ∙ sym second.1)
one_verdict trees (Ok reg) (Err fault) first second = absurd (none_in_nothing (broken fault.0 trees) fault.1 (first.0 fault.0) second.least.one)
one_verdict trees (Err fault) (Ok reg) first second = absurd (none_in_nothing (broken fault.0 trees) fault.1 (second.0 fault.0) first.least.one)
one_verdict trees (Err fault) (Err other) first second = ap (λ f. Err f) (one_broken trees fault other first second (cases_order (number_of fault.0) (number_of other.0)))

-- ---- there is a verdict

below_12 : (s : Rule) → number_of s < 12
below_12 rule.bases = omega arith
below_12 rule.circles = omega arith
below_12 rule.names = omega arith
below_12 rule.one_way = omega arith
below_12 rule.raised = omega arith
below_12 rule.values = omega arith
below_12 rule.constant_values = omega arith
below_12 rule.services = omega arith
below_12 rule.singletons = omega arith
below_12 rule.types = omega arith
below_12 rule.whole = omega arith

-- no rule of a lesser number is broken, or one is broken first
abbrev NoneBelow : List Tree → ℕ → Type 0
NoneBelow trees n = (s : Rule) → number_of s < n → broken s trees ≡ []

abbrev HasFirstBroken : List Tree → Type 0
HasFirstBroken trees = (r : Rule) × (p : Place) × IsFirstBroken trees r p

one_more : (trees : List Tree) (n : ℕ) → NoneBelow trees n → ((s : Rule) → number_of s ≡ n → broken s trees ≡ []) → NoneBelow trees (suc n)
one_more trees n below here s low = by_order (cases_order (number_of s) n)
  where
    by_order : (number_of s ≡ n) ⊎ ((number_of s < n) ⊎ (n < number_of s)) → broken s trees ≡ []
    by_order (inl same) = here s same
    by_order (inr (inl less)) = below s less
    by_order (inr (inr more)) = let bad : ⊥ = omega (arith, low, more) in absurd bad

by_places : (trees : List Tree) (n : ℕ) → NoneBelow trees n → number_of (rule_of n) ≡ n → (ps : List Place) → broken (rule_of n) trees ≡ ps → NoneBelow trees (suc n) ⊎ HasFirstBroken trees
by_places trees n below right [] none = inl (one_more trees n below (λ s is. subst (λ r. broken r trees ≡ []) (ap rule_of (sym is) ∙ back s) none))
by_places trees n below right (p ∷ ps) some =
    let first = has_first (λ (q : Place). q) p ps in
    inr (
      rule_of n,
      first.0,
      record {
        least = subst (IsLeast first.0) (sym some) (record { one = first.1; first = first.2 });
        lesser = λ s low. below s (subst (λ k. number_of s < k) right low);
      },
    )

up_to : (trees : List Tree) (n : ℕ) → NoneBelow trees n ⊎ HasFirstBroken trees
up_to trees zero = inl (λ s low. let bad : ⊥ = omega (arith, low) in absurd bad)
up_to trees (suc n) = elim (up_to trees n) [ inr found ↦ inr found | inl below ↦ by_number (number_of (rule_of n) == n) refl below ]
  where
    by_number : (b : Bool) → (number_of (rule_of n) == n) ≡ b → NoneBelow trees n → NoneBelow trees (suc n) ⊎ HasFirstBroken trees
    by_number true is below = by_places trees n below (eqb-true (number_of (rule_of n)) n is) (broken (rule_of n) trees) refl
    by_number false is below = inl (one_more trees n below (λ s same. absurd (both_ways (number_of (rule_of n) == n) is (eq-eqb (number_of (rule_of n)) n (ap number_of (ap rule_of (sym same) ∙ back s) ∙ same)))))

pub a_verdict : (trees : List Tree) → (r : Result (List Entity) (Rule × Place)) × IsChecked trees r
a_verdict trees = elim (up_to trees 12) [
  | inl none ↦ (Ok (meant trees), ((λ r. none r (below_12 r)), refl))
  | inr found ↦ (Err (found.0, found.1), found.2)
]
