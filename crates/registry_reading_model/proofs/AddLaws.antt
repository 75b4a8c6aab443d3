-- What one step of the reading goes by: the next line of a text, and one more entity, whose name is above those that are written.
use Rattle.std.proofs.Common.{◌≡◌, ℕ, zero, suc, ◌+◌, ◌<◌, ◌≤◌, ◌==◌, Bool, true, false, not, if◌then◌else◌, List, [], ◌∷◌, ◌++◌, length}
use Rattle.std.proofs.Common.{take, drop, get_or, filter, None, Some, refl, sym, ap, subst, ◌∙◌, arith, inl, inr}
use Rattle.std.proofs.lemmas.Bool.{cases_Bool, both_ways, false_from_ne_true, and_from, not_from_false, eqb-true, ltb-false}
use Rattle.std.proofs.lemmas.Cmp.{nat_list_cmp_total}
use Rattle.std.proofs.lemmas.List.{append-nil, take-append-drop, drop_more}
use Rattle.std.proofs.lemmas.List.Sums.{fails_before_first}
use Rattle.std.proofs.lemmas.List.Quantifiers.{position-Some}
use Rattle.std.proofs.Math.Seq.{take-length}
use Rattle.std.proofs.lemmas.List.Elements.{filter-append}
use Rattle.std.proofs.lemmas.List.Kept.{IsStrictlySortedBy-filter}
use Rattle.std.proofs.lemmas.Slice.Eq.{bytes_eq-Decides}
use Rattle.std.specs.Cmp.Lexicographic.{slice_cmp}
use Rattle.std.specs.List.{AllByRecursion, position, position_or_len}
use Rattle.std.specs.Prelude.{nat_lt}
use Rattle.std.specs.List.Sorted.{IsStrictlySortedBy}
use Rattle.std.specs.Ordering.{nat_cmp, ordering_reverse}
use Rattle.std.specs.Str.{bytes_eq}
use Rattle.std.specs.declared.cmp.Ordering.TheVariants.{Less, Greater}
use Rattle.uno_model.specs.Entities.{Entity}
use Rattle.uno_model.specs.Registry.{IsRising, find_entity, Adds}
use Rattle.uno_model.proofs.FindLaws.{none_found}
use Rattle.registry_text_model.specs.Lines.{is_built_in_name, written}
use Rattle.registry_text_model.specs.Reading.{is_one_line}
use Rattle.registry_reading_model.proofs.RisingLaws.{names_of, AllBelow, all_below}
use Rattle.registry_reading_model.proofs.WrittenPlaces.{written_more, written_without}
use Rattle.registry_reading_model.specs.States.{is_above, last_name, is_above_name}

-- ---- the last name

pub last_added : (es : List Entity) (e : Entity) → last_name (es ++ e ∷ []) ≡ Some e.name
unfolding last_name
last_added [] e = refl
last_added (d ∷ []) e = refl
last_added (d ∷ (c ∷ cs)) e = last_added (c ∷ cs) e

pub above_last : (es : List Entity) (name : List ℕ) → is_above es name ≡ is_above_name (last_name es) name
unfolding is_above last_name
above_last [] name = refl
above_last (e ∷ []) name = refl
above_last (e ∷ (d ∷ ds)) name = above_last (d ∷ ds) name

-- ---- what is above the written names is not there

-- a name is not below itself
never_itself : (x : List ℕ) → slice_cmp nat_cmp x x ≡ Less → ⊥
never_itself x below =
    let both : Less ≡ Greater = sym below ∙ nat_list_cmp_total.antisymm x x ∙ ap ordering_reverse below in
    let worse : ⊥ = cc in
    worse

below_differs : (x y : List ℕ) → slice_cmp nat_cmp x y ≡ Less → bytes_eq y x ≡ false
below_differs x y below =
    false_from_ne_true (bytes_eq y x) (λ same. never_itself x (subst (λ z. slice_cmp nat_cmp x z ≡ Less) ((bytes_eq-Decides y x).0 same) below))

names_written : (reg : List Entity) → filter (λ n. not (is_built_in_name n)) (names_of reg) ≡ names_of (written reg)
names_written [] = refl
names_written (e ∷ es) = by_test (is_built_in_name e.name) (names_written es)
  where
    by_test : (b : Bool) → filter (λ n. not (is_built_in_name n)) (names_of es) ≡ names_of (written es)
        → (if not b then e.name ∷ filter (λ n. not (is_built_in_name n)) (names_of es) else filter (λ n. not (is_built_in_name n)) (names_of es))
        ≡ names_of (if not b then e ∷ written es else written es)
    by_test true rest = rest
    by_test false rest = ap (λ ns. e.name ∷ ns) rest

pub written_rise : (reg : List Entity) → IsRising reg → IsRising (written reg)
written_rise reg rising =
    subst (λ names. IsStrictlySortedBy (slice_cmp nat_cmp) names) (names_written reg)
    (IsStrictlySortedBy-filter (slice_cmp nat_cmp) (λ n. not (is_built_in_name n)) (names_of reg) rising)

others_named : (reg : List Entity) (name : List ℕ) → is_built_in_name name ≡ false → AllBelow (names_of (written reg)) name
    → AllByRecursion (λ (e : Entity). bytes_eq name e.name ≡ false) reg
others_named [] name new below = tt
others_named (e ∷ es) name new below = elim (cases_Bool (is_built_in_name e.name)) [
  | inl built ↦
      let passes : bytes_eq name e.name ≡ true → is_built_in_name name ≡ true =
      λ same. subst (λ n. is_built_in_name n ≡ true) (sym ((bytes_eq-Decides name e.name).0 same)) built in
      let rest : AllBelow (names_of (written es)) name = subst (λ ds. AllBelow (names_of ds) name) (written_without e es built) below in
      (false_from_ne_true (bytes_eq name e.name) (λ same. both_ways (is_built_in_name name) new (passes same)), others_named es name new rest)
  | inr own ↦
      let both : AllBelow (names_of (e ∷ written es)) name = subst (λ ds. AllBelow (names_of ds) name) (written_more e es own) below in
      (below_differs e.name name both.0, others_named es name new both.1)
]

pub never_there : (reg : List Entity) (name : List ℕ) → IsRising reg → is_built_in_name name ≡ false → is_above (written reg) name ≡ true
    → find_entity name reg ≡ None
never_there reg name rising new above =
    none_found name reg (others_named reg name new (all_below (written reg) name (written_rise reg rising) above))

-- ---- what is above the written names is written last

rising_behind : (front : List Entity) (back : List Entity) → IsRising (front ++ back) → IsRising back
unfolding IsStrictlySortedBy
rising_behind [] back rising = rising
rising_behind (d ∷ ds) back rising = rising_behind ds back rising.1

above_behind : (front : List Entity) (e : Entity) (back : List Entity) (name : List ℕ) → is_above (front ++ e ∷ back) name ≡ is_above (e ∷ back) name
unfolding is_above
above_behind [] e back name = refl
above_behind (d ∷ []) e back name = refl
above_behind (d ∷ (c ∷ cs)) e back name = above_behind (c ∷ cs) e back name

-- of rising entities, none behind one is below it
nothing_behind : (front back : List Entity) (e : Entity) → IsRising (e ∷ back) → is_above (front ++ back) e.name ≡ true → back ≡ []
unfolding IsStrictlySortedBy
nothing_behind front [] e rising above = refl
nothing_behind front (b ∷ bs) e rising above =
    let below = all_below (b ∷ bs) e.name rising.1 (sym (above_behind front b bs e.name) ∙ above) in
    absurd (never_itself e.name (nat_list_cmp_total.trans e.name b.name e.name rising.0.0 below.0))

pub added_last : (old new : List Entity) (e : Entity) → Adds old new e → IsRising new → is_built_in_name e.name ≡ false
    → is_above (written old) e.name ≡ true → written new ≡ written old ++ e ∷ []
added_last old new e adds rising own above =
    let writes : Entity → Bool = λ d. not (is_built_in_name d.name) in
    let before : written old ≡ written adds.front ++ written adds.back = ap written adds.before ∙ filter-append writes adds.front adds.back in
    let after : written new ≡ written adds.front ++ e ∷ written adds.back =
    ap written adds.after ∙ filter-append writes adds.front (e ∷ adds.back) ∙ ap (λ ds. written adds.front ++ ds) (written_more e adds.back own) in
    let behind : IsRising (e ∷ written adds.back) = rising_behind (written adds.front) (e ∷ written adds.back) (subst IsRising after (written_rise new rising)) in
    let none : written adds.back ≡ [] =
    nothing_behind (written adds.front) (written adds.back) e behind (subst (λ ds. is_above ds e.name ≡ true) before above) in
    after ∙ ap (λ ds. written adds.front ++ e ∷ ds) none
    ∙ ap (λ ds. ds ++ e ∷ []) (sym (before ∙ ap (λ ds. written adds.front ++ ds) none ∙ append-nil (written adds.front)))

-- ---- the first line feed

-- in front of the first line feed stands one line
front_is_line : (bytes : List ℕ) (i : ℕ) → i ≤ length bytes → ((k : ℕ) → k < i → (get_or bytes k 0 == 10) ≡ false)
    → is_one_line (take i bytes) ≡ true
unfolding is_one_line
front_is_line bytes zero within others = refl
front_is_line [] (suc i) within others = refl
front_is_line (c ∷ cs) (suc i) within others =
    and_from (not (c == 10)) _ (not_from_false (c == 10) (others 0 (omega arith)))
    (front_is_line cs i (omega (arith, within)) (λ k low. others (suc k) (omega (arith, low))))

pub split_feed : (bytes : List ℕ) (i : ℕ) → position (λ b. b == 10) bytes ≡ Some i
    → (bytes ≡ take i bytes ++ 10 ∷ drop (i + 1) bytes) × (is_one_line (take i bytes) ≡ true) × (i < length bytes)
split_feed bytes i at =
    let first = position-Some (λ b. b == 10) bytes i 0 at in
    let cut : drop i bytes ≡ 10 ∷ drop (i + 1) bytes =
    drop_more bytes i 0 first.0 ∙ ap (λ c. c ∷ drop (i + 1) bytes) (eqb-true (get_or bytes i 0) 10 first.1) in (
      sym (take-append-drop i bytes) ∙ ap (λ cs. take i bytes ++ cs) cut,
      front_is_line bytes i (omega (arith, first.0)) first.2,
      first.0,
    )

pub no_feed : (bytes : List ℕ) → position (λ b. b == 10) bytes ≡ None → is_one_line bytes ≡ true
no_feed bytes none =
    let long : length bytes ≤ position_or_len (λ b. b == 10) bytes =
    not_within (nat_lt (position_or_len (λ b. b == 10) bytes) (length bytes)) refl none in
    subst (λ cs. is_one_line cs ≡ true) (take-length bytes)
    (front_is_line bytes (length bytes) (omega arith) (λ k low. fails_before_first (λ b. b == 10) bytes k 0 (omega (arith, low, long))))
  where
    not_within : (b : Bool) → nat_lt (position_or_len (λ b. b == 10) bytes) (length bytes) ≡ b
        → (if b then Some (position_or_len (λ b. b == 10) bytes) else None) ≡ None → length bytes ≤ position_or_len (λ b. b == 10) bytes
    not_within true low is = let worse : ⊥ = cc in absurd worse
    not_within false high is = ltb-false _ _ high
