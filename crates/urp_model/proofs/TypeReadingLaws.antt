-- Types are read as they are spelled.
use Rattle.std.proofs.Common.{◌≡◌, ℕ, ◌+◌, ◌-◌, ◌≤◌, Bool, true, false, nat_lt, List, [], ◌∷◌, ◌++◌, Option, None, Some, refl, sym, ap, subst, ◌∙◌, arith}
use Rattle.std.specs.List.{list_all}
use Rattle.std.proofs.lemmas.Bool.{ltb-false, le-ltb, lt-ltb}
use Rattle.std.proofs.lemmas.List.{append-nil}
use Rattle.std.specs.Int.{w16}
use Rattle.uno_model.specs.Entities.{Entity}
use Rattle.uno_model.specs.Kinds.{Kind, name_of}
use Rattle.uno_model.specs.Sound.{is_named}
use Rattle.uno_model.specs.TypeClasses.{class_code, class_of}
use Rattle.uno_model.specs.Types.{is_type}
use Rattle.uno_model.specs.declared.type_class.TypeClass.{TypeClass}
use Rattle.urp_model.specs.NamedKinds.{class_numbered, simple_kind, kind_named}
use Rattle.urp_model.specs.Parts.{is_slot}
use Rattle.urp_model.specs.ReadingNames.{held_kind_at, written_kind, written_kind_at, unmarked, kind_behind, kind_at}
use Rattle.urp_model.specs.Spelling.{IsNumber, IsSlot, IsTextName, SpellsKind, simple}
use Rattle.urp_model.specs.Spelling as spell
use Rattle.urp_model.specs.Tables.{Table, meaning, noted}
use Rattle.urp_model.specs.declared.reason.Reason.TheVariants.{BadClass, BadSlot, UnknownSlot, UnknownType}
use Rattle.urp_model.specs.Agreement.{Agrees, pair, triple}
use Rattle.urp_model.proofs.Agreeing.{Then, weaken, done_agrees, fail_agrees, if_agrees, judged_agrees, bind_agrees}
use Rattle.urp_model.proofs.ClassLaws.{number_of_class, class_of_number, class_below, simple_of_class, class_of_simple, class_of_named, named_of_class}
use Rattle.urp_model.proofs.KindLaws.{kind_named_gives, kind_named_back}
use Rattle.urp_model.proofs.PartLaws.{byte_agrees, number_agrees, text_name_agrees, slot_agrees, slot_test, slot_tested}

-- ---- types

-- a slot that means the name of a type
pub record HeldKind (reg : List Entity) (c : TypeClass) (table : Table) (x : Kind × Table) (used : List ℕ) : Type 0 where
  pub slot : ℕ
  pub name : List ℕ
  pub slot_is : IsSlot used slot
  pub meant : meaning slot table ≡ Some name
  pub found : kind_named reg c name ≡ Some x.0
  pub after : x.1 ≡ table

held_kind_agrees : (reg : List Entity) (c : TypeClass) (table : Table) → Agrees triple (held_kind_at reg c table) (HeldKind reg c table)
unfolding held_kind_at
held_kind_agrees reg c table =
    weaken triple
    (bind_agrees pair triple _ slot_agrees (λ slot. judged_agrees triple UnknownSlot (meaning slot table) _ (λ name is.
    judged_agrees triple UnknownType (kind_named reg c name) _ (λ k found. done_agrees triple (k, table)))))
    (λ x used t.
    let named = t.5 in
    let last = named.2 in
    record {
      slot = t.0;
      name = named.0;
      slot_is = subst (λ b. IsSlot b t.0) (sym (t.3 ∙ ap (λ z. t.1 ++ z) last.2.1 ∙ append-nil t.1)) t.4;
      meant = named.1;
      found = last.1 ∙ ap (λ (y : Kind × Table). Some y.0) (sym last.2.0);
      after = ap (λ (y : Kind × Table). y.1) last.2.0;
    })
    (λ x used h. (h.slot, used, [], sym (append-nil used), h.slot_is, (h.name, h.meant, (x.0, h.found, (ap (λ z. (x.0, z)) h.after, refl)))))

-- a slot and the name of a type
pub record WrittenKind (reg : List Entity) (c : TypeClass) (table : Table) (x : Kind × Table) (used : List ℕ) : Type 0 where
  pub slot : ℕ
  pub name : List ℕ
  pub front : List ℕ
  pub back : List ℕ
  pub split : used ≡ front ++ back
  pub slot_is : IsSlot front slot
  pub name_is : IsTextName back name
  pub found : kind_named reg c name ≡ Some x.0
  pub after : x.1 ≡ noted slot name table

written_kind_agrees : (reg : List Entity) (c : TypeClass) (table : Table) → Agrees triple (written_kind_at reg c table) (WrittenKind reg c table)
unfolding written_kind_at written_kind
written_kind_agrees reg c table =
    weaken triple
    (bind_agrees pair triple _ (number_agrees w16) (λ slot. bind_agrees pair triple _ text_name_agrees (λ name.
    if_agrees triple (is_slot slot) BadSlot (λ is. judged_agrees triple UnknownType (kind_named reg c name) _ (λ k found. done_agrees triple (k, noted slot name table))))))
    (λ x used t.
    let behind = t.5 in
    let last = behind.5 in
    let judged = last.1 in
    let done = judged.2 in
    record {
      slot = t.0;
      name = behind.0;
      front = t.1;
      back = behind.1;
      split = t.3 ∙ ap (λ z. t.1 ++ z) (behind.3 ∙ ap (λ z. behind.1 ++ z) done.1 ∙ append-nil behind.1);
      slot_is = (t.4, slot_test t.0 last.0);
      name_is = behind.4;
      found = judged.1 ∙ ap (λ (y : Kind × Table). Some y.0) (sym done.0);
      after = ap (λ (y : Kind × Table). y.1) done.0;
    })
    (λ x used h. (
      h.slot,
      h.front,
      h.back,
      h.split,
      h.slot_is.0,
      (
        h.name,
        h.back,
        [],
        sym (append-nil h.back),
        h.name_is,
        (slot_tested h.slot h.slot_is.1, (x.0, h.found, (ap (λ z. (x.0, z)) h.after, refl))),
      ),
    ))

-- what stands behind a class byte, by its mark and by the simple type of its class
abbrev pub Behind : List Entity → Table → Bool → TypeClass → Option Kind → Kind × Table → List ℕ → Type 0
Behind reg table true c (Some k) x used = (x ≡ (k, table)) × (used ≡ [])
Behind reg table false c (Some k) x used = ⊥
Behind reg table true c None x used = HeldKind reg c table x used
Behind reg table false c None x used = WrittenKind reg c table x used

behind_agrees : (reg : List Entity) (table : Table) (low : Bool) (c : TypeClass) (o : Option Kind) → Agrees triple (kind_behind reg low c o table) (Behind reg table low c o)
unfolding kind_behind
behind_agrees reg table true c (Some k) = done_agrees triple (k, table)
behind_agrees reg table false c (Some k) = fail_agrees triple BadClass
behind_agrees reg table true c None = held_kind_agrees reg c table
behind_agrees reg table false c None = written_kind_agrees reg c table

-- the class byte is the number of the class, or that and 128
low_byte : (b : ℕ) (c : TypeClass) → nat_lt b 128 ≡ true → class_numbered (unmarked b) ≡ Some c → b ≡ class_code c
low_byte b c low is = number_of_class b c (rw low at is)

high_byte : (b : ℕ) (c : TypeClass) → nat_lt b 128 ≡ false → class_numbered (unmarked b) ≡ Some c → b ≡ class_code c + 128
high_byte b c low is =
    let number : b - 128 ≡ class_code c = number_of_class (b - 128) c (rw low at is) in
    let high : 128 ≤ b = ltb-false b 128 low in
    omega arith

-- bytes that are read as a type spell it
behind_spells : (reg : List Entity) (table : Table) (b : ℕ) (c : TypeClass) (low : Bool) (o : Option Kind) (x : Kind × Table) (used : List ℕ) → list_all is_named reg ≡ true
    → nat_lt b 128 ≡ low → class_numbered (unmarked b) ≡ Some c
    → simple_kind c ≡ o → Behind reg table low c o x used → SpellsKind reg table x.0 (b ∷ used) x.1
behind_spells reg table b c true (Some k) x used named low number is h =
    let of_class = simple_of_class c k is in
    let byte : b ≡ class_code (class_of k) = low_byte b c low number ∙ ap class_code (sym of_class.1) in
    subst (λ (y : Kind × Table). SpellsKind reg table y.0 (b ∷ used) y.1) (sym h.0) (simple of_class.0 (rw (byte, h.1) refl) refl)
behind_spells reg table b c false (Some k) x used named low number is h = absurd h
behind_spells reg table b c true None x used named low number is h =
    let n = kind_named_gives reg c h.name x.0 named h.found in
    let byte : b ≡ class_code (class_of x.0) = low_byte b c low number ∙ ap class_code (sym n.class_is) in
    spell.held used h.slot (named_of_class x.0 (ap simple_kind n.class_is ∙ is)) n.is (ap (λ z. z ∷ used) byte) h.slot_is (h.meant ∙ ap Some (sym n.name_is)) h.after
behind_spells reg table b c false None x used named low number is h =
    let n = kind_named_gives reg c h.name x.0 named h.found in
    let byte : b ≡ class_code (class_of x.0) + 128 = high_byte b c low number ∙ ap (λ d. class_code d + 128) (sym n.class_is) in
    let split : b ∷ used ≡ (class_code (class_of x.0) + 128) ∷ (h.front ++ h.back) = rw (byte, h.split) refl in
    spell.written h.front h.back h.slot (named_of_class x.0 (ap simple_kind n.class_is ∙ is)) n.is split h.slot_is
    (subst (IsTextName h.back) (sym n.name_is) h.name_is) (h.after ∙ ap (λ m. noted h.slot m table) (sym n.name_is))

-- what stands behind a byte, where its mark and its class are known
abbrev pub BehindByte : List Entity → Table → ℕ → Kind × Table → List ℕ → Type 0
BehindByte reg table b x used = (c : TypeClass) × (class_numbered (unmarked b) ≡ Some c) × Behind reg table (nat_lt b 128) c (simple_kind c) x used

behind_known : (reg : List Entity) (table : Table) (b : ℕ) (c : TypeClass) (low : Bool) (o : Option Kind) (x : Kind × Table) (used : List ℕ) → nat_lt b 128 ≡ low
    → class_numbered (unmarked b) ≡ Some c
    → simple_kind c ≡ o → Behind reg table low c o x used → BehindByte reg table b x used
behind_known reg table b c low o x used mark number is h = (c, number, subst (λ l. Behind reg table l c (simple_kind c) x used) (sym mark) (subst (λ p. Behind reg table low c p x used) (sym is) h))

low_number : (c : TypeClass) → class_numbered (unmarked (class_code c)) ≡ Some c
low_number c = rw (lt-ltb (class_code c) 128 (class_below c)) (class_of_number c)

high_number : (c : TypeClass) → class_numbered (unmarked (class_code c + 128)) ≡ Some c
high_number c =
    let less : class_code c + 128 - 128 ≡ class_code c = omega arith in
    rw (le-ltb (class_code c + 128) 128 (omega arith), less) (class_of_number c)

-- a byte and what stands behind it
abbrev pub AtByte : List Entity → Table → Kind × Table → List ℕ → Type 0
AtByte reg table = Then (λ b used. used ≡ b ∷ []) (BehindByte reg table)

at_byte : (reg : List Entity) (table : Table) (b : ℕ) (x : Kind × Table) (used q : List ℕ) → used ≡ b ∷ q → BehindByte reg table b x q → AtByte reg table x used
at_byte reg table b x used q split behind = (b, b ∷ [], q, split, refl, behind)

kind_known_by : (reg : List Entity) (k : Kind) → list_all is_named reg ≡ true → is_type reg k ≡ true → (name : List ℕ) → name ≡ name_of k
    → kind_named reg (class_of k) name ≡ Some k
kind_known_by reg k named is name same = ap (kind_named reg (class_of k)) same ∙ kind_named_back reg k named is

-- bytes that spell a type are read as it
spelled_behind : (reg : List Entity) (table : Table) (x : Kind × Table) (used : List ℕ) → list_all is_named reg ≡ true → SpellsKind reg table x.0 used x.1 → AtByte reg table x used
spelled_behind reg table x used named (simple is split after) =
    let c = class_of x.0 in
    at_byte reg table (class_code c) x used [] split
    (behind_known reg table (class_code c) c true (Some x.0) x [] (lt-ltb (class_code c) 128 (class_below c)) (low_number c) (class_of_simple x.0 is) (ap (λ z. (x.0, z)) after, refl))
spelled_behind reg table x used named (spell.held q slot is_other is split slot_is meant after) =
    let c = class_of x.0 in
    at_byte reg table (class_code c) x used q split
    (behind_known reg table (class_code c) c true None x q (lt-ltb (class_code c) 128 (class_below c)) (low_number c) (class_of_named x.0 is_other)
    (record { slot = slot; name = name_of x.0; slot_is = slot_is; meant = meant; found = kind_known_by reg x.0 named is (name_of x.0) refl; after = after }))
spelled_behind reg table x used named (spell.written q p slot is_other is split slot_is name_is after) =
    let c = class_of x.0 in
    at_byte reg table (class_code c + 128) x used (q ++ p) split
    (behind_known reg table (class_code c + 128) c false None x (q ++ p) (le-ltb (class_code c + 128) 128 (omega arith)) (high_number c) (class_of_named x.0 is_other)
    (record { slot = slot; name = name_of x.0; front = q; back = p; split = refl; slot_is = slot_is; name_is = name_is; found = kind_known_by reg x.0 named is (name_of x.0) refl; after = after }))

pub kind_agrees : (reg : List Entity) (table : Table) → list_all is_named reg ≡ true → Agrees triple (kind_at reg table) (λ x used. SpellsKind reg table x.0 used x.1)
unfolding kind_at
kind_agrees reg table named =
    weaken triple
    (bind_agrees pair triple _ byte_agrees (λ b. judged_agrees triple BadClass (class_numbered (unmarked b)) _ (λ c is. behind_agrees reg table (nat_lt b 128) c (simple_kind c))))
    (λ x used t.
    let behind = t.5 in
    subst (λ b. SpellsKind reg table x.0 b x.1) (sym (t.3 ∙ ap (λ z. z ++ t.2) t.4))
    (behind_spells reg table t.0 behind.0 (nat_lt t.0 128) (simple_kind behind.0) x t.2 named refl behind.1 refl behind.2))
    (λ x used h. spelled_behind reg table x used named h)
