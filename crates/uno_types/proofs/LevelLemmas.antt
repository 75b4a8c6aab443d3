-- What a stack of levels holds: the members of the last one, which is the base of all others, come first.
use Rattle.std.proofs.Common.{◌≡◌, ℕ, ◌-◌, ◌<◌, List, [], ◌∷◌, ◌++◌, length, map, None, Some, refl, sym, ap, ◌∙◌, arith}
use Rattle.std.specs.Borrow.{Bor}
use Rattle.std.proofs.lemmas.List.{append_assoc, append-nil}
use Rattle.uno_model.specs.Entities as plain
use Rattle.uno_model.specs.Registry.{find_entity, members_within}
use Rattle.uno_model.proofs.MemberLaws.{no_members}
use Rattle.uno_types.specs.declared.members.Level.{Level}
use Rattle.uno_entities.specs.declared.entity.Field.{Field}
use Rattle.uno_entities.specs.Entities.{field_of}
use Rattle.uno_types.specs.Members.{IsLevel, stacked}
use Rattle.uno_types.proofs.MemberLemmas.{from_level, behind_none, behind_base}

-- one more level stands before all that are there
pub stacked_more : (levels stack : List (Bor (List Field))) (own : Bor (List Field)) → stack ≡ levels ++ own ∷ [] → stacked stack ≡ map field_of own.now ++ stacked levels
unfolding stacked
stacked_more [] stack own is = ap stacked is ∙ sym (append-nil _)
stacked_more (l ∷ levels) stack own is =
    ap stacked is ∙ ap (λ ms. ms ++ map field_of l.now) (stacked_more levels (levels ++ own ∷ []) own refl)
    ∙ append_assoc (map field_of own.now) (stacked levels) (map field_of l.now)

-- an empty stack has none
pub stack_begins : (members : List plain.Field) (stack : List (Bor (List Field))) → stack ≡ [] → members ++ stacked stack ≡ members
unfolding stacked
stack_begins members stack none = ap (λ s. members ++ stacked s) none ∙ append-nil members

-- the members of the levels that are left, and those on the stack, are all: it stays so with one level more, and at the end
pub stack_on : (reg : List plain.Entity) (at : List ℕ) (left : ℕ) (level : Level) (base : Bor (List ℕ)) (levels stack : List (Bor (List Field))) (all : List plain.Field)
    → members_within left reg at ++ stacked levels ≡ all → 0 < left → IsLevel level (find_entity at reg) → level.base ≡ Some base → stack ≡ levels ++ level.own ∷ []
    → members_within (left - 1) reg base.now ++ stacked stack ≡ all
stack_on reg at left level base levels stack all so_far some is one more =
    ap (λ ms. members_within (left - 1) reg base.now ++ ms) (stacked_more levels stack level.own more)
    ∙ sym (append_assoc (members_within (left - 1) reg base.now) (map field_of level.own.now) (stacked levels))
    ∙ ap (λ ms. (ms ++ map field_of level.own.now) ++ stacked levels) (sym (behind_base reg left level base one))
    ∙ ap (λ ms. ms ++ stacked levels) (sym (from_level reg at left level some is)) ∙ so_far

pub stack_ends : (reg : List plain.Entity) (at : List ℕ) (left : ℕ) (level : Level) (levels stack : List (Bor (List Field))) (all : List plain.Field)
    → members_within left reg at ++ stacked levels ≡ all → 0 < left → IsLevel level (find_entity at reg) → level.base ≡ None → stack ≡ levels ++ level.own ∷ []
    → stacked stack ≡ all
stack_ends reg at left level levels stack all so_far some is none more =
    stacked_more levels stack level.own more
    ∙ ap (λ ms. (ms ++ map field_of level.own.now) ++ stacked levels) (sym (behind_none reg left level none))
    ∙ ap (λ ms. ms ++ stacked levels) (sym (from_level reg at left level some is)) ∙ so_far

pub stack_whole : (reg : List plain.Entity) (at : List ℕ) (left : ℕ) (levels : List (Bor (List Field))) (all : List plain.Field)
    → members_within left reg at ++ stacked levels ≡ all → left ≡ 0 → stacked levels ≡ all
stack_whole reg at left levels all so_far none = ap (λ ms. ms ++ stacked levels) (sym (no_members left reg at none)) ∙ so_far

-- what is taken from the stack goes behind what was taken before
pub taken_on : (taken more all : List plain.Field) (own : Bor (List Field)) (levels stack : List (Bor (List Field)))
    → taken ++ stacked stack ≡ all → stack ≡ levels ++ own ∷ [] → more ≡ taken ++ map field_of own.now → more ++ stacked levels ≡ all
taken_on taken more all own levels stack so_far top is =
    ap (λ ms. ms ++ stacked levels) is ∙ append_assoc taken (map field_of own.now) (stacked levels)
    ∙ ap (λ ms. taken ++ ms) (sym (stacked_more levels stack own top)) ∙ so_far

-- and when the stack is empty, all were taken
no_levels : (stack : List (Bor (List Field))) → length stack ≡ 0 → stack ≡ []
no_levels [] none = refl
no_levels (l ∷ levels) none = absurd (omega (arith, none))

pub taken_all : (taken all : List plain.Field) (stack : List (Bor (List Field))) → taken ++ stacked stack ≡ all → length stack ≡ 0 → taken ≡ all
taken_all taken all stack so_far none = sym (stack_begins taken stack (no_levels stack none)) ∙ so_far
