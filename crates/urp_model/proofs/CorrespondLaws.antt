-- A reader's table goes on to answer to what the sender holds, name by name.
use Rattle.std.proofs.Common.{◌≡◌, ℕ, ◌<◌, true, false, List, [], ◌∷◌, get_or, take, set, Option, Some, None, refl, sym, ◌∙◌, ap, subst, arith, bytes_eq}
use Rattle.std.specs.List.{AllByRecursion}
use Rattle.std.specs.Map.{lookup, remove_entry}
use Rattle.std.proofs.lemmas.Bool.{lt-ltb}
use Rattle.std.proofs.lemmas.List.{length-replicate, length-set, get_or-set_same, get_or-set_other}
use Rattle.std.proofs.lemmas.Slice.Eq.{bytes_eq-Decides}
use Rattle.urp_model.specs.Carried.{Corresponds, AllCorrespond}
use Rattle.urp_model.specs.Held.{holds, slot_for, used, held_after, StandsFor}
use Rattle.urp_model.specs.Slots.{age, announced, holding, no_meanings}
use Rattle.urp_model.specs.Tables.{Table, no_tables, meaning, noted}
use Rattle.urp_model.specs.Writing.{Names, no_names}
use Rattle.urp_model.proofs.Entries.{all_taken, all_left, all_found, others_left}
use Rattle.urp_model.proofs.KeptUses.{Agrees, IsAt, AreAt}
use Rattle.urp_model.proofs.UseByUse.{all_uses, slot_again}

-- what a sender holds of no use, and of one more
stands_empty : StandsFor [] []
unfolding held_after
stands_empty = refl

stands_next : (held : Names) (uses : List (List ℕ)) (name : List ℕ) → StandsFor held uses → StandsFor (used name held) (name ∷ uses)
unfolding held_after
stands_next held uses name stands = ap (used name) stands

-- what a sender holds agrees with its uses
agrees_of : (held : Names) (uses : List (List ℕ)) → StandsFor held uses → Agrees uses (holding uses) held
agrees_of held uses stands = subst (Agrees uses (holding uses)) (sym stands) (all_uses uses)

-- a name that is held is found
found : (name : List ℕ) (held : Names) → holds name held ≡ true → lookup (bytes_eq name) held ≡ Some (slot_for name held)
unfolding holds slot_for
found name held is = by_look (lookup (bytes_eq name) held) refl
  where
    by_look : (o : Option ℕ) → lookup (bytes_eq name) held ≡ o → lookup (bytes_eq name) held ≡ Some (slot_for name held)
    by_look None look = let bad : false ≡ true = rw look at is in absurd cc
    by_look (Some s) look = look ∙ ap Some (sym (slot_again name held s look))

-- the slot of a name is one of the 256
after_use : (held : Names) (uses : List (List ℕ)) (name : List ℕ) → StandsFor held uses → Agrees (name ∷ uses) (holding (name ∷ uses)) (used name held)
after_use held uses name stands = agrees_of (used name held) (name ∷ uses) (stands_next held uses name stands)

placed_after : (held : Names) (uses : List (List ℕ)) (name : List ℕ) → StandsFor held uses
    → AreAt (holding (name ∷ uses)) ((name, slot_for name held) ∷ take 255 (remove_entry (bytes_eq name) held))
unfolding used
placed_after held uses name stands = (after_use held uses name stands).placed

pub slot_below : (held : Names) (uses : List (List ℕ)) (name : List ℕ) → StandsFor held uses → slot_for name held < 256
slot_below held uses name stands =
    let agrees = after_use held uses name stands in
    let few = agrees.few in
    let count = agrees.count in
    let inside = (placed_after held uses name stands).0.inside in
    omega arith

-- a slot of the 256 means what stands there, and a name is noted there
meaning_at : (slot : ℕ) (table : Table) → slot < 256 → meaning slot table ≡ get_or table slot None
unfolding meaning
meaning_at slot table low = rw (lt-ltb slot 256 low) refl

noted_at : (slot : ℕ) (name : List ℕ) (table : Table) → slot < 256 → noted slot name table ≡ set table slot (Some name)
unfolding noted announced
noted_at slot name table low = rw (lt-ltb slot 256 low) refl

-- a slot means the name of an entry
abbrev MeansEntry : Table → List ℕ × ℕ → Type 0
MeansEntry table e = get_or table e.1 None ≡ Some e.0

-- the slot of a name that is held means it
entry_meant : (table : Table) (held : Names) (name : List ℕ) → Corresponds table held → holds name held ≡ true → get_or table (slot_for name held) None ≡ Some name
entry_meant table held name c is = all_found bytes_eq bytes_eq-Decides (λ n s. get_or table s None ≡ Some n) name (slot_for name held) held c.each (found name held is)

pub held_meant : (table : Table) (held : Names) (name : List ℕ) → Corresponds table held → holds name held ≡ true → meaning (slot_for name held) table ≡ Some name
held_meant table held name c is = meaning_at (slot_for name held) table (slot_below held c.uses name c.stands) ∙ entry_meant table held name c is

-- a use of a name that is held changes nothing in the table
pub held_goes_on : (table : Table) (held : Names) (name : List ℕ) → Corresponds table held → holds name held ≡ true → Corresponds table (used name held)
unfolding used
held_goes_on table held name c is = record {
  uses = name ∷ c.uses;
  stands = stands_next held c.uses name c.stands;
  slots = c.slots;
  each = (entry_meant table held name c is, all_taken (MeansEntry table) 255 (remove_entry (bytes_eq name) held) (all_left (bytes_eq name) (MeansEntry table) held c.each));
}

-- entries of other names are at other slots, so they mean what they did
others_meant : (table : Table) (name : List ℕ) (slot : ℕ) (names : List (List ℕ)) (es : Names) → IsAt names name slot → AreAt names es → AllByRecursion (λ e. name ≡ e.0 → ⊥) es
    → AllByRecursion (MeansEntry table) es
    → AllByRecursion (MeansEntry (set table slot (Some name))) es
others_meant table name slot names [] at placed others means = tt
others_meant table name slot names (e ∷ es) at placed others means =
    let apart : e.1 ≡ slot → ⊥ = λ same. others.0 (sym at.is ∙ ap (λ s. get_or names s []) (sym same) ∙ placed.0.is) in
    (get_or-set_other table slot e.1 (Some name) None apart ∙ means.0, others_meant table name slot names es at placed.1 others.1 means.1)

-- a use of a name that is not held, or is written out anyway, is noted in the table
pub new_goes_on : (table : Table) (held : Names) (name : List ℕ) → Corresponds table held → Corresponds (noted (slot_for name held) name table) (used name held)
unfolding used
new_goes_on table held name c =
    let slot = slot_for name held in
    let low = slot_below held c.uses name c.stands in
    let placed = placed_after held c.uses name c.stands in
    let rest = remove_entry (bytes_eq name) held in
    let others = all_taken (λ e. name ≡ e.0 → ⊥) 255 rest (others_left bytes_eq bytes_eq-Decides (age c.uses) name held (agrees_of held c.uses c.stands).older) in
    let means = all_taken (MeansEntry table) 255 rest (all_left (bytes_eq name) (MeansEntry table) held c.each) in
    let long = c.slots in
    subst (λ t. Corresponds t (used name held)) (sym (noted_at slot name table low)) (record {
      uses = name ∷ c.uses;
      stands = stands_next held c.uses name c.stands;
      slots = length-set table slot (Some name) ∙ c.slots;
      each = (get_or-set_same table slot (Some name) None (omega arith), others_meant table name slot (holding (name ∷ c.uses)) (take 255 rest) placed.0 placed.1 others means);
    })

-- before any use
at_first : Corresponds no_meanings []
unfolding no_meanings
at_first = record { uses = []; stands = stands_empty; slots = length-replicate {A = Option (List ℕ)} 256 None; each = tt }

pub all_at_first : AllCorrespond no_tables no_names
unfolding no_tables no_names
all_at_first = record { types = at_first; oids = at_first; tids = at_first }
