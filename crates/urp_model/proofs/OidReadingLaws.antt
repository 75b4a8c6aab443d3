-- Objects and threads are read as they are spelled.
use Rattle.std.proofs.Common.{◌≡◌, ◌≢◌, ℕ, ◌<◌, Bool, true, false, ◌==◌, nat_lt, List, [], ◌∷◌, ◌++◌, length, get_or}
use Rattle.std.proofs.Common.{Option, None, Some, if◌then◌else◌, refl, sym, ap, subst, ◌∙◌, inr, arith}
use Rattle.std.proofs.lemmas.Bool.{eqb-true, and_parts, ltb-true, false_from_ne_true}
use Rattle.std.proofs.lemmas.List.{append-nil, nil_from_length}
use Rattle.std.proofs.lemmas.Str.{IsUtf8-from_is_utf8, is_utf8-from_IsUtf8}
use Rattle.std.specs.Int.{w16}
use Rattle.std.specs.Str.{is_utf8}
use Rattle.urp_model.specs.ReadingNames.{unchanged, named, tid_at, is_null, some_oid, is_text, oid_at}
use Rattle.urp_model.specs.Spelling.{IsNumber, IsSlot, IsTextName, IsThreadName, SpellsName, held, written, SpellsTid, SpellsOid}
use Rattle.urp_model.specs.Tables.{Table, meaning, noted}
use Rattle.urp_model.specs.declared.reason.Reason.TheVariants.{BadText, UnknownSlot}
use Rattle.urp_model.specs.Agreement.{Agrees, pair, triple}
use Rattle.urp_model.proofs.Agreeing.{weaken, done_agrees, if_agrees, judged_agrees, bind_agrees}
use Rattle.uno_model.proofs.Options.{same_some, none_some}
use Rattle.urp_model.proofs.PartLaws.{name_agrees, text_name_agrees, slot_agrees}

module _ (IsName : List ℕ → List ℕ → Type 0) (table : Table) where
  -- what a name and its slot say is spelled by them
  pub named_spells : (name p q b : List ℕ) (slot : ℕ) (y : List ℕ × Table) → b ≡ p ++ q → IsName p name → IsSlot q slot
      → named table name slot ≡ Some y → SpellsName IsName table y.0 b y.1
  unfolding named
  named_spells [] p q b slot y split name_is slot_is is = by_meaning (meaning slot table) refl is
    where
      by_meaning : (o : Option (List ℕ)) → meaning slot table ≡ o → unchanged table o ≡ Some y → SpellsName IsName table y.0 b y.1
      by_meaning None meant is = absurd (none_some is)
      by_meaning (Some name) meant is =
          subst (λ (z : List ℕ × Table). SpellsName IsName table z.0 b z.1) (same_some is) (held p q slot split name_is slot_is meant refl)
  named_spells (c ∷ cs) p q b slot y split name_is slot_is is =
      subst (λ (z : List ℕ × Table). SpellsName IsName table z.0 b z.1) (same_some is) (written p q slot (λ none. cc) split name_is slot_is refl)

  -- a name that is not empty says itself
  named_itself : (name : List ℕ) (slot : ℕ) → name ≢ [] → named table name slot ≡ Some (name, noted slot name table)
  unfolding named
  named_itself [] slot some = absurd (some refl)
  named_itself (c ∷ cs) slot some = refl

  -- the name, the slot, and what they say
  abbrev pub Named : List ℕ × Table → List ℕ → Type 0
  Named x b = (name : List ℕ) × (p : List ℕ) × (q : List ℕ) × (slot : ℕ) × (b ≡ p ++ q) × IsName p name × IsSlot q slot × (named table name slot ≡ Some x)

  pub spells_named : (x : List ℕ × Table) (b : List ℕ) → SpellsName IsName table x.0 b x.1 → Named x b
  unfolding named
  spells_named x b (held p q slot split name_is slot_is meant after) =
      ([], p, q, slot, split, name_is, slot_is, ap (unchanged table) meant ∙ ap (λ z. Some (x.0, z)) (sym after))
  spells_named x b (written p q slot some split name_is slot_is after) =
      (x.0, p, q, slot, split, name_is, slot_is, named_itself x.0 slot some ∙ ap (λ z. Some (x.0, z)) (sym after))

pub tid_agrees : (table : Table) → Agrees triple (tid_at table) (λ x used. SpellsTid table x.0 used x.1)
unfolding tid_at
tid_agrees table =
    weaken triple
    (bind_agrees pair triple _ (name_agrees 1024) (λ name. bind_agrees pair triple _ slot_agrees (λ slot.
    judged_agrees triple UnknownSlot (named table name slot) _ (λ x is. done_agrees triple x))))
    (λ x used t.
    let b = t.5 in
    let last = b.5 in
    subst (λ (z : List ℕ × Table). SpellsTid table z.0 used z.1) (sym last.2.0)
    (named_spells IsThreadName table t.0 t.1 b.1 used b.0 last.0 (t.3 ∙ ap (λ z. t.1 ++ z) (b.3 ∙ ap (λ z. b.1 ++ z) last.2.1 ∙ append-nil b.1)) t.4 b.4 last.1))
    (λ x used h.
    let n = spells_named IsThreadName table x used h in
    (n.0, n.1, n.2, n.4, n.5, (n.3, n.2, [], sym (append-nil n.2), n.6, (x, n.7, (refl, refl)))))

-- ---- an object, or none

-- what a text and its slot say of an object
abbrev pub oid_of : Table → List ℕ → ℕ → Option (Option (List ℕ) × Table)
oid_of table name slot = if is_null name slot then Some (None, table) else some_oid (named table name slot)

-- the text, the slot, and what they say
abbrev pub OidNamed : Table → Option (List ℕ) × Table → List ℕ → Type 0
OidNamed table x b = (name : List ℕ) × (p : List ℕ) × (q : List ℕ) × (slot : ℕ) × (b ≡ p ++ q) × IsTextName p name × IsSlot q slot × (oid_of table name slot ≡ Some x)

oid_spells : (table : Table) (name p q b : List ℕ) (slot : ℕ) (x : Option (List ℕ) × Table) → b ≡ p ++ q → IsTextName p name → IsSlot q slot → oid_of table name slot ≡ Some x
    → is_text x.0 ≡ true → SpellsOid table x.0 b x.1
oid_spells table name p q b slot x split name_is slot_is is = by_null (is_null name slot) refl is
  where
    null_spells : is_null name slot ≡ true → SpellsOid table None b table
    null_spells null =
        let parts = and_parts (length name == 0) (slot == 65535) null in
        let none : name ≡ [] = nil_from_length name (eqb-true (length name) 0 parts.0) in
        (p, q, split, subst (IsTextName p) none name_is, subst (IsNumber w16 q) (eqb-true slot 65535 parts.1) slot_is.0, refl)

    named_text : (y : List ℕ × Table) → named table name slot ≡ Some y → is_utf8 y.0 ≡ true → SpellsOid table (Some y.0) b y.1
    named_text y found text = (named_spells IsTextName table name p q b slot y split name_is slot_is found, IsUtf8-from_is_utf8 y.0 text)

    by_named : (o : Option (List ℕ × Table)) → named table name slot ≡ o → some_oid o ≡ Some x → is_text x.0 ≡ true → SpellsOid table x.0 b x.1
    by_named None found is text = absurd (none_some is)
    by_named (Some y) found is text =
        let same : (Some y.0, y.1) ≡ x = same_some is in
        subst (λ (z : Option (List ℕ) × Table). SpellsOid table z.0 b z.1) same
        (named_text y found (ap (λ (z : Option (List ℕ) × Table). is_text z.0) same ∙ text))

    by_null : (t : Bool) → is_null name slot ≡ t → (if t then Some (None, table) else some_oid (named table name slot)) ≡ Some x → is_text x.0 ≡ true
        → SpellsOid table x.0 b x.1
    by_null true null is text = subst (λ (z : Option (List ℕ) × Table). SpellsOid table z.0 b z.1) (same_some is) (null_spells null)
    by_null false other is text = by_named (named table name slot) refl is text

-- a slot that means something is no null, and neither is a name that is not empty
meant_below : (slot : ℕ) (table : Table) (name : List ℕ) → meaning slot table ≡ Some name → slot < 256
unfolding meaning
meant_below slot table name is = by_test (nat_lt slot 256) refl is
  where
    by_test : (t : Bool) → nat_lt slot 256 ≡ t → (if t then get_or table slot None else None) ≡ Some name → slot < 256
    by_test true low is = ltb-true slot 256 low
    by_test false high is = absurd (none_some is)

not_null : (name : List ℕ) (slot : ℕ) → ((name ≡ []) → (slot ≡ 65535) → ⊥) → is_null name slot ≡ false
not_null name slot other = false_from_ne_true (is_null name slot) (λ is.
    let parts = and_parts (length name == 0) (slot == 65535) is in
    other (nil_from_length name (eqb-true (length name) 0 parts.0)) (eqb-true slot 65535 parts.1))

spelled_oid : (table : Table) (x : Option (List ℕ) × Table) (b : List ℕ) → SpellsOid table x.0 b x.1 → OidNamed table x b
unfolding named
spelled_oid table (None, after) b (p, q, split, name_is, slot_is, same) = ([], p, q, 65535, split, name_is, (slot_is, inr refl), ap (λ z. Some (None, z)) (sym same))
spelled_oid table (Some oid, after) b (held p q slot split name_is slot_is meant same, text) =
    let low = meant_below slot table oid meant in
    let other : is_null [] slot ≡ false = not_null [] slot (λ none is. omega (arith, low)) in
    ([], p, q, slot, split, name_is, slot_is, rw (other, meant) (ap (λ z. Some (Some oid, z)) (sym same)))
spelled_oid table (Some oid, after) b (written p q slot some split name_is slot_is same, text) =
    let other : is_null oid slot ≡ false = not_null oid slot (λ none is. some none) in
    (oid, p, q, slot, split, name_is, slot_is, rw (other, named_itself IsTextName table oid slot some) (ap (λ z. Some (Some oid, z)) (sym same)))

-- it is a text
spelled_text : (table : Table) (oid : Option (List ℕ)) (after : Table) (b : List ℕ) → SpellsOid table oid b after → is_text oid ≡ true
spelled_text table None after b spelled = refl
spelled_text table (Some oid) after b spelled = is_utf8-from_IsUtf8 oid spelled.1

pub oid_agrees : (table : Table) → Agrees triple (oid_at table) (λ x used. SpellsOid table x.0 used x.1)
unfolding oid_at
oid_agrees table =
    weaken triple
    (bind_agrees pair triple _ text_name_agrees (λ name. bind_agrees pair triple _ slot_agrees (λ slot.
    judged_agrees triple UnknownSlot (oid_of table name slot) _ (λ x is. if_agrees triple (is_text x.0) BadText (λ text. done_agrees triple x)))))
    (λ x used t.
    let b = t.5 in
    let last = b.5 in
    subst (λ (z : Option (List ℕ) × Table). SpellsOid table z.0 used z.1) (sym last.2.1.0)
    (oid_spells table t.0 t.1 b.1 used b.0 last.0 (t.3 ∙ ap (λ z. t.1 ++ z) (b.3 ∙ ap (λ z. b.1 ++ z) last.2.1.1 ∙ append-nil b.1)) t.4 b.4 last.1 last.2.0))
    (λ x used h.
    let n = spelled_oid table x used h in
    (n.0, n.1, n.2, n.4, n.5, (n.3, n.2, [], sym (append-nil n.2), n.6, (x, n.7, (spelled_text table x.0 x.1 used h, (refl, refl))))))
