-- Marks that are closed under bases stand at all bases.
use Rattle.std.proofs.Common.{◌≡◌, ℕ, Bool, List, [], length, Option, None, Some, refl, sym, subst, ◌∙◌, ◌⊎◌, inl, inr, arith}
use Rattle.std.specs.Prelude.{Contains, slice_get}
use Rattle.uno_model.specs.Circles.{Leads, step, on}
use Rattle.uno_model.specs.Entities.{Entity}
use Rattle.uno_model.specs.Registry.{find_entity, stands_on, stands_on_body}
use Rattle.uno_model.proofs.ReachLaws.{found_place}
use Rattle.uno_entities.specs.Marks.{Marked, Closed, MarksBases, OnlyBases}

-- nothing is in an empty list
nothing_in : {X : Type 0} (x : X) → Contains [] x → ⊥
nothing_in x has = omega (arith, has.1)

-- what has a base is there
has_base : (reg : List Entity) (b c : List ℕ) (o : Option Entity) → find_entity b reg ≡ o → Contains (stands_on_body o) c → (e : Entity) × (find_entity b reg ≡ Some e)
has_base reg b c None is has = absurd (nothing_in c has)
has_base reg b c (Some e) is has = (e, is)

-- what leads on is there
leads_found : (reg : List Entity) (b c : List ℕ) → Leads (stands_on reg) b c → (e : Entity) × (find_entity b reg ≡ Some e)
leads_found reg b c (step from to has) = has_base reg from to (find_entity from reg) refl has
leads_found reg b c (on from next to has more) = has_base reg from next (find_entity from reg) refl has

-- the bases of an entity that is marked are marked, where nothing is pending
bases_marked : (reg : List Entity) (marks : List Bool) (name base : List ℕ) → Closed reg marks [] → (p : ℕ) (e : Entity) → slice_get reg p ≡ Some e → e.name ≡ name → Marked marks p
    → Contains (stands_on reg name) base → (i : ℕ) (f : Entity) → slice_get reg i ≡ Some f → f.name ≡ base → Marked marks i
bases_marked reg marks name base closed p e at is mark has i f there same =
    elim (closed p e at mark) [
      | inl pending ↦ absurd (nothing_in p pending)
      | inr all ↦ all i f there (subst (λ n. Contains (stands_on reg e.name) n) (sym same) (subst (λ n. Contains (stands_on reg n) base) (sym is) has))
    ]

-- marks that are closed, with the name itself marked, stand at each entity to which the name leads
pub leads_marked : (reg : List Entity) (marks : List Bool) (name base : List ℕ) → Closed reg marks [] → Leads (stands_on reg) name base
    → (p : ℕ) (e : Entity) → slice_get reg p ≡ Some e
    → e.name ≡ name → Marked marks p → (i : ℕ) (f : Entity) → slice_get reg i ≡ Some f → f.name ≡ base → Marked marks i
leads_marked reg marks name base closed (step from to has) p e at is mark i f there same = bases_marked reg marks from to closed p e at is mark has i f there same
leads_marked reg marks name base closed (on from next to has more) p e at is mark i f there same =
    let found = leads_found reg next to more in
    let place = found_place next reg found.0 found.1 in
    let step_mark = bases_marked reg marks from next closed p e at is mark has place.0 found.0 place.1 place.2 in
    leads_marked reg marks next to closed more place.0 found.0 place.1 place.2 step_mark i f there same

-- so they stand at all bases of the name, and nowhere else
pub marks_bases : (reg : List Entity) (marks : List Bool) (name : List ℕ) (p : ℕ) (e : Entity) → length marks ≡ length reg → slice_get reg p ≡ Some e
    → e.name ≡ name → Marked marks p
    → Closed reg marks [] → OnlyBases reg name marks → ((i j : ℕ) (f g : Entity) → slice_get reg i ≡ Some f → slice_get reg j ≡ Some g → f.name ≡ g.name → i ≡ j) → MarksBases reg name marks
marks_bases reg marks name p e long at is mark closed only distinct =
    record {
      one_each = long;
      marked = λ i f there. (
        only i f there,
        λ base. elim base [
          | inl same ↦ subst (Marked marks) (distinct p i e f at there (is ∙ same)) mark
          | inr leads ↦ leads_marked reg marks name f.name closed leads p e at is mark i f there refl
        ],
      );
    }
