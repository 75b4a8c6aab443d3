-- Values for members: those of a base stand before a level's own, and each list has as many as the other.
use Rattle.std.proofs.Common.{◌≡◌, ℕ, suc, ◌+◌, ◌-◌, ◌<◌, ◌≤◌, List, [], ◌∷◌, ◌++◌, length, map, take, drop}
use Rattle.std.proofs.Common.{get_or, None, Some, true, false, refl, sym, ap, ◌∙◌, arith, eqb-true}
use Rattle.std.specs.Prelude.{◌↔◌, ◌==◌, IsTrue}
use Rattle.std.specs.Borrow.{Bor}
use Rattle.std.proofs.lemmas.List.{length-append, length-map, length-take, map-append, drop_all}
use Rattle.std.proofs.Math.Seq.{take-add}
use Rattle.uno_model.specs.Kinds.{Kind}
use Rattle.uno_model.specs.Entities as plain
use Rattle.uno_model.specs.Fits.{Fits, FitEach, FitAll}
use Rattle.uno_model.specs.Registry.{find_entity, members_within}
use Rattle.uno_model.proofs.MemberLaws.{no_members}
use Rattle.uno_entities.specs.Entities.{field_of}
use Rattle.uno_types.specs.Members.{IsLevel}
use Rattle.uno_types.specs.declared.members.Level.{Level}
use Rattle.uno_entities.specs.TypeNames.{kind_of}
use Rattle.uno_entities.specs.declared.entity.Field.{Field}
use Rattle.uno_types.proofs.MemberLemmas.{behind, from_level, behind_none, behind_base}
use Rattle.uno_values.proofs.Parts.{part_at}
use Rattle.uno_values.specs.declared.value.Value.{Value}
use Rattle.uno_values.specs.Fitting.{kinds_of}
use Rattle.uno_values.specs.Values.{plain_of, plains_of}

-- a test that fails
pub untrue : IsTrue false → ⊥
untrue e = cc

-- what fits has as many values as types
pub fit_long : (reg : List plain.Entity) (vs : List Value) (ks : List Kind) → FitEach reg (plains_of vs) ks → length vs ≡ length ks
unfolding FitEach
fit_long reg [] [] fit = refl
fit_long reg [] (k ∷ ks) fit = absurd fit
fit_long reg (v ∷ vs) [] fit = absurd fit
fit_long reg (v ∷ vs) (k ∷ ks) fit = ap suc (fit_long reg vs ks fit.1)

-- two fronts fit, and what stands behind them: then the whole does, and the other way round
pub fit_both : (reg : List plain.Entity) (vs ws : List Value) (ks ls : List Kind) → FitEach reg (plains_of vs) ks → FitEach reg (plains_of ws) ls
    → FitEach reg (plains_of (vs ++ ws)) (ks ++ ls)
unfolding FitEach
fit_both reg [] ws [] ls front back = back
fit_both reg [] ws (k ∷ ks) ls front back = absurd front
fit_both reg (v ∷ vs) ws [] ls front back = absurd front
fit_both reg (v ∷ vs) ws (k ∷ ks) ls front back = (front.0, fit_both reg vs ws ks ls front.1 back)

pub fit_parts : (reg : List plain.Entity) (vs ws : List Value) (ks ls : List Kind) → length vs ≡ length ks → FitEach reg (plains_of (vs ++ ws)) (ks ++ ls)
    → FitEach reg (plains_of vs) ks × FitEach reg (plains_of ws) ls
unfolding FitEach
fit_parts reg [] ws [] ls same fit = (tt, fit)
fit_parts reg [] ws (k ∷ ks) ls same fit = absurd (omega (arith, same))
fit_parts reg (v ∷ vs) ws [] ls same fit = absurd (omega (arith, same))
fit_parts reg (v ∷ vs) ws (k ∷ ks) ls same fit =
    let rest = fit_parts reg vs ws ks ls (omega (arith, same)) fit.1 in
    ((fit.0, rest.0), rest.1)

-- the types of the members from a level on
abbrev pub kinds_within : ℕ → List plain.Entity → List ℕ → List Kind
kinds_within left reg at = map (λ f. f.kind) (members_within left reg at)

abbrev pub kinds_behind : List plain.Entity → ℕ → Level → List Kind
kinds_behind reg left level = map (λ f. f.kind) (behind reg left level)

level_kinds : (reg : List plain.Entity) (at : List ℕ) (left : ℕ) (level : Level) → 0 < left → IsLevel level (find_entity at reg)
    → kinds_within left reg at ≡ kinds_behind reg left level ++ kinds_of level.own.now
level_kinds reg at left level some is =
    ap (map (λ f. f.kind)) (from_level reg at left level some is) ∙ map-append (λ f. f.kind) (behind reg left level) (map field_of level.own.now)

own_long : (own : List Field) → length (kinds_of own) ≡ length own
own_long own = length-map (map field_of own) (λ f. f.kind) ∙ length-map own field_of

-- the values up to an end are those up to a start, and those of the level
parts_of_values : (vs : List Value) (start count end : ℕ) → end ≡ start + count → take end vs ≡ take start vs ++ take count (drop start vs)
parts_of_values vs start count end is = ap (λ n. take n vs) is ∙ take-add start count vs

-- what fits up to the end fits up to the start, and on the level; and the other way round
pub level_parts : (reg : List plain.Entity) (at : List ℕ) (left : ℕ) (level : Level) (vs : List Value) (start end : ℕ) → 0 < left → IsLevel level (find_entity at reg)
    → end ≡ start + length level.own.now → end ≤ length vs → FitEach reg (plains_of (take end vs)) (kinds_within left reg at)
    → FitEach reg (plains_of (take start vs)) (kinds_behind reg left level) × FitEach reg (plains_of (take (length level.own.now) (drop start vs))) (kinds_of level.own.now)
level_parts reg at left level vs start end some is cut within fit =
    let own = level.own.now in
    let values = parts_of_values vs start (length own) end cut in
    let kinds = level_kinds reg at left level some is in
    let long = fit_long reg (take end vs) (kinds_within left reg at) fit in
    let same : length (take start vs) ≡ length (kinds_behind reg left level) =
    omega (arith, long, length-take end vs, length-take start vs, ap length kinds, length-append (kinds_behind reg left level) (kinds_of own), own_long own, cut, within) in
    let whole : FitEach reg (plains_of (take start vs ++ take (length own) (drop start vs))) (kinds_behind reg left level ++ kinds_of own) = rw (sym values, sym kinds) fit in
    fit_parts reg (take start vs) (take (length own) (drop start vs)) (kinds_behind reg left level) (kinds_of own) same whole

pub level_whole : (reg : List plain.Entity) (at : List ℕ) (left : ℕ) (level : Level) (vs : List Value) (start end : ℕ) → 0 < left → IsLevel level (find_entity at reg)
    → end ≡ start + length level.own.now → FitEach reg (plains_of (take start vs)) (kinds_behind reg left level)
    → FitEach reg (plains_of (take (length level.own.now) (drop start vs))) (kinds_of level.own.now) → FitEach reg (plains_of (take end vs)) (kinds_within left reg at)
level_whole reg at left level vs start end some is cut front back =
    rw (parts_of_values vs start (length level.own.now) end cut, level_kinds reg at left level some is)
    (fit_both reg (take start vs) (take (length level.own.now) (drop start vs)) (kinds_behind reg left level) (kinds_of level.own.now) front back)

-- too few values fit no level
pub too_few : (reg : List plain.Entity) (at : List ℕ) (left : ℕ) (level : Level) (vs : List Value) (end : ℕ) → 0 < left → IsLevel level (find_entity at reg)
    → (length level.own.now ≤ end → ⊥) → FitEach reg (plains_of (take end vs)) (kinds_within left reg at) → ⊥
too_few reg at left level vs end some is few fit =
    let kinds = level_kinds reg at left level some is in
    omega (
      arith,
      fit_long reg (take end vs) (kinds_within left reg at) fit,
      length-take end vs,
      ap length kinds,
      length-append (kinds_behind reg left level) (kinds_of level.own.now),
      own_long level.own.now,
      few,
    )

-- a test for zero
is_zero : (n : ℕ) → IsTrue (n == 0) → n ≡ 0
is_zero n e = eqb-true n 0 e

-- no types are fitted by no values
pub none_left : (reg : List plain.Entity) (vs : List Value) (n : ℕ) → n ≤ length vs → IsTrue (n == 0) ↔ FitEach reg (plains_of (take n vs)) []
unfolding FitEach
none_left reg vs n within = (
  (λ e. rw (is_zero n e) tt),
  (λ fit. let none : n ≡ 0 = omega (arith, fit_long reg (take n vs) [] fit, length-take n vs, within) in rw none refl),
)

-- ---- what a test says

pub neither : {A : Type 0} → (A → ⊥) → IsTrue false ↔ A
neither never = ((λ e. absurd (untrue e)), (λ a. absurd (never a)))

pub through : {A B C : Type 0} → A ↔ B → B ↔ C → A ↔ C
through ab bc = ((λ a. bc.0 (ab.0 a)), (λ c. ab.1 (bc.1 c)))

-- where the base is the last, all fit exactly where none is left
pub at_root : (reg : List plain.Entity) (at : List ℕ) (left : ℕ) (level : Level) (vs : List Value) (start end : ℕ) → 0 < left → IsLevel level (find_entity at reg)
    → level.base ≡ None → end ≡ start + length level.own.now → end ≤ length vs
    → FitEach reg (plains_of (take (length level.own.now) (drop start vs))) (kinds_of level.own.now) → IsTrue (start == 0) ↔ FitEach reg (plains_of (take end vs)) (kinds_within left reg at)
at_root reg at left level vs start end some is none cut within own =
    let nothing : kinds_behind reg left level ≡ [] = ap (map (λ f. f.kind)) (behind_none reg left level none) in
    let rest = none_left reg vs start (omega (arith, cut, within)) in (
      (λ e. level_whole reg at left level vs start end some is cut (rw nothing (rest.0 e)) own),
      (λ fit. rest.1 (rw (sym nothing) (level_parts reg at left level vs start end some is cut within fit).0)),
    )

-- where there is a base, all fit exactly where those before the level fit it
pub at_base : (reg : List plain.Entity) (at : List ℕ) (left : ℕ) (level : Level) (base : Bor (List ℕ)) (vs : List Value) (start end : ℕ) → 0 < left
    → IsLevel level (find_entity at reg)
    → level.base ≡ Some base → end ≡ start + length level.own.now → end ≤ length vs
    → FitEach reg (plains_of (take (length level.own.now) (drop start vs))) (kinds_of level.own.now)
    → FitEach reg (plains_of (take start vs)) (kinds_within (left - 1) reg base.now) ↔ FitEach reg (plains_of (take end vs)) (kinds_within left reg at)
at_base reg at left level base vs start end some is one cut within own =
    let kinds : kinds_behind reg left level ≡ kinds_within (left - 1) reg base.now = ap (map (λ f. f.kind)) (behind_base reg left level base one) in (
      (λ fit. level_whole reg at left level vs start end some is cut (rw kinds fit) own),
      (λ fit. rw (sym kinds) (level_parts reg at left level vs start end some is cut within fit).0),
    )

-- over no level there are no members
pub at_end : (reg : List plain.Entity) (at : List ℕ) (left : ℕ) (vs : List Value) (end : ℕ) → left ≡ 0 → end ≤ length vs
    → IsTrue (end == 0) ↔ FitEach reg (plains_of (take end vs)) (kinds_within left reg at)
at_end reg at left vs end none within = rw (no_members left reg at none) (none_left reg vs end within)

-- ---- one element, and those behind it

pub all_lost : (reg : List plain.Entity) (vs : List Value) (k : Kind) (i : ℕ) (v : Value) → i < length vs → v ≡ get_or vs i v
    → (Fits reg (plain_of v) k → ⊥) → IsTrue false ↔ FitAll reg (plains_of (drop i vs)) k
unfolding FitAll
all_lost reg vs k i v within is misfit = rw (part_at vs i v within is) (neither (λ all. misfit all.0))

pub all_but_one : (reg : List plain.Entity) (vs : List Value) (k : Kind) (i : ℕ) (v : Value) → i < length vs → v ≡ get_or vs i v → Fits reg (plain_of v) k
    → FitAll reg (plains_of (drop (i + 1) vs)) k ↔ FitAll reg (plains_of (drop i vs)) k
unfolding FitAll
all_but_one reg vs k i v within is fit = rw (part_at vs i v within is) ((λ all. (fit, all)), (λ all. all.1))

pub all_passed : (reg : List plain.Entity) (vs : List Value) (k : Kind) (i : ℕ) → length vs ≤ i → IsTrue true ↔ FitAll reg (plains_of (drop i vs)) k
unfolding FitAll
all_passed reg vs k i past = rw (drop_all i vs past) ((λ e. tt), (λ all. refl))

pub each_lost : (reg : List plain.Entity) (fields : List Field) (i : ℕ) (f : Field) (vs : List Value) (place : ℕ) (v : Value) → i < length fields
    → f ≡ get_or fields i f → place < length vs → v ≡ get_or vs place v
    → (Fits reg (plain_of v) (kind_of f.kind) → ⊥) → IsTrue false ↔ FitEach reg (plains_of (take (length (drop i fields)) (drop place vs))) (kinds_of (drop i fields))
unfolding FitEach
each_lost reg fields i f vs place v within is there read misfit = rw (part_at fields i f within is, part_at vs place v there read) (neither (λ each. misfit each.0))

pub each_but_one : (reg : List plain.Entity) (fields : List Field) (i : ℕ) (f : Field) (vs : List Value) (place : ℕ) (v : Value) → i < length fields
    → f ≡ get_or fields i f → place < length vs → v ≡ get_or vs place v
    → Fits reg (plain_of v) (kind_of f.kind)
    → FitEach reg (plains_of (take (length (drop (i + 1) fields)) (drop (place + 1) vs))) (kinds_of (drop (i + 1) fields)) ↔ FitEach reg (plains_of (take (length (drop i fields)) (drop place vs))) (kinds_of (drop i fields))
unfolding FitEach
each_but_one reg fields i f vs place v within is there read fit = rw (part_at fields i f within is, part_at vs place v there read) ((λ each. (fit, each)), (λ each. each.1))

pub each_passed : (reg : List plain.Entity) (fields : List Field) (i : ℕ) (vs : List Value) (place : ℕ) → length fields ≤ i
    → IsTrue true ↔ FitEach reg (plains_of (take (length (drop i fields)) (drop place vs))) (kinds_of (drop i fields))
unfolding FitEach
each_passed reg fields i vs place past = rw (drop_all i fields past) ((λ e. tt), (λ each. refl))
