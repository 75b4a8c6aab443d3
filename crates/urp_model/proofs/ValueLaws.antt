-- Values of all types are read as they are spelled.
use Rattle.std.proofs.Common.{◌≡◌, ◌≢◌, ℕ, zero, suc, ◌<◌, Bool, true, false, ◌==◌, nat_lt, List, [], ◌∷◌, ◌++◌, length}
use Rattle.std.proofs.Common.{Option, Result, Ok, if◌then◌else◌, refl, sym, ap, subst, ◌∙◌, ◌⊎◌, inl, inr, arith}
use Rattle.std.specs.List.{list_all}
use Rattle.std.proofs.lemmas.List.{append-nil}
use Rattle.std.proofs.lemmas.Bool.{ltb-true}
use Rattle.std.specs.Int.{w8, w16, w32, w64, cast_signed}
use Rattle.uno_model.specs.Entities.{Entity}
use Rattle.uno_model.specs.Fits.{member_kinds}
use Rattle.uno_model.specs.Kinds.{Kind}
use Rattle.uno_model.specs.Kinds as kd
use Rattle.uno_model.specs.Sound.{is_named}
use Rattle.uno_model.specs.Values.{Plain, plains}
use Rattle.uno_model.specs.Values as plain
use Rattle.urp_model.specs.NamedKinds.{is_any, is_byte}
use Rattle.urp_model.specs.Parts.{◌>>=◌}
use Rattle.urp_model.specs.Reading.{ref_of, Reads, elements_at, members_at, bytes_at, list_at, tuple_at, content_at, any_at, value_step, value_at}
use Rattle.urp_model.specs.Spelling.{IsLength, Spelled, SpellsKind, SpellsOid, SpellsAll, SpellsEach, SpellsBytes}
use Rattle.urp_model.specs.Spelling.{SpellsList, SpellsSequence, SpellsTuple, SpellsStep, Spells}
use Rattle.urp_model.specs.Tables.{Table, Tables, with_types, with_oids}
use Rattle.urp_model.specs.declared.fault.Fault.{Fault}
use Rattle.urp_model.specs.declared.reason.Reason.TheVariants.{BadBoolean, BadAny, Deep}
use Rattle.urp_model.specs.Agreement.{Agrees, pair, triple}
use Rattle.urp_model.proofs.Agreeing.{weaken, done_agrees, fail_agrees, choice_agrees, if_agrees, bind_agrees, map_agrees}
use Rattle.urp_model.proofs.OidReadingLaws.{oid_agrees}
use Rattle.urp_model.proofs.PartLaws.{byte_agrees, number_agrees, length_agrees, raw_agrees, text_agrees}
use Rattle.urp_model.proofs.TypeReadingLaws.{kind_agrees}

-- a reader of values and what it reads
abbrev pub ReadsAs : (List ℕ → Result (Plain × Tables × List ℕ) Fault) → (Plain → List ℕ → Tables → Type 0) → Type 0
ReadsAs r P = Agrees triple r (λ (x : Plain × Tables) used. P x.0 used x.1)

-- a value that is one part
part_value : {Y : Type 0} {r : List ℕ → Result (Y × List ℕ) Fault} {P : Y → List ℕ → Type 0} → Agrees pair r P → (g : Y → Plain) (s : Tables)
    → ReadsAs (λ bs. r bs >>= λ y. Ok (g y.0, s, y.1)) (λ x used t. (y : Y) × (x ≡ g y) × P y used × (t ≡ s))
part_value h g s =
    weaken triple (map_agrees pair triple _ (λ y. (g y, s)) h (λ y rest. refl))
    (λ x used t. (t.0, ap (λ (z : Plain × Tables). z.0) t.1, t.2, ap (λ (z : Plain × Tables). z.1) t.1))
    (λ x used h. (h.0, λ i. (h.1 i, h.3 i), h.2))

boolean_value : (reg : List Entity) (r : Kind → Reads) (s : Tables) → ReadsAs (value_step reg r kd.boolean s)
    (λ x used t. (((x ≡ plain.boolean false) × (used ≡ 0 ∷ [])) ⊎ ((x ≡ plain.boolean true) × (used ≡ 1 ∷ []))) × (t ≡ s))
unfolding value_step
boolean_value reg r s =
    weaken triple (bind_agrees pair triple _ byte_agrees (λ b. if_agrees triple (nat_lt b 2) BadBoolean (λ is. done_agrees triple (plain.boolean (b == 1), s))))
    (λ x used t. to x t.0 used t.1 t.2 (t.3 ∙ ap (λ z. t.1 ++ z) t.5.1.1 ∙ append-nil t.1 ∙ t.4) t.5.0 t.5.1.0)
    (λ x used h. elim h.0 [ inl f ↦ (0, 0 ∷ [], [], f.1, refl, (refl, ((λ i. (f.0 i, h.1 i)), refl))) | inr t ↦ (1, 1 ∷ [], [], t.1, refl, (refl, ((λ i. (t.0 i, h.1 i)), refl))) ])
  where
    to : (x : Plain × Tables) (b : ℕ) (used p q : List ℕ) → used ≡ b ∷ [] → nat_lt b 2 ≡ true → x ≡ (plain.boolean (b == 1), s)
        → (((x.0 ≡ plain.boolean false) × (used ≡ 0 ∷ [])) ⊎ ((x.0 ≡ plain.boolean true) × (used ≡ 1 ∷ []))) × (x.1 ≡ s)
    to x zero used p q is low made = (inl (ap (λ (z : Plain × Tables). z.0) made, is), ap (λ (z : Plain × Tables). z.1) made)
    to x (suc zero) used p q is low made = (inr (ap (λ (z : Plain × Tables). z.0) made, is), ap (λ (z : Plain × Tables). z.1) made)
    to x (suc (suc b)) used p q is low made = let bad : suc (suc b) < 2 = ltb-true (suc (suc b)) 2 low in absurd (omega arith)

-- ---- several values

-- no values
none_left : (S : Spelled) (s : Tables) (xs : List Plain) (used : List ℕ) (t : Tables) → length xs ≡ 0 → SpellsAll S s xs used t → (xs ≡ []) × (used ≡ []) × (t ≡ s)
unfolding SpellsAll
none_left S s [] used t none spelled = (refl, spelled.0, spelled.1)
none_left S s (x ∷ xs) used t none spelled = absurd (omega arith)

-- the first of some values, and the others
one_first : (S : Spelled) (s : Tables) (n : ℕ) (xs : List Plain) (used : List ℕ) (t : Tables) → length xs ≡ suc n → SpellsAll S s xs used t
    → (first : Plain × Tables) × (others : List Plain) × (p : List ℕ) × (q : List ℕ) × (xs ≡ first.0 ∷ others) × (used ≡ p ++ q) × S s first.0 p first.1 × (length others ≡ n)
    × SpellsAll S first.1 others q t
unfolding SpellsAll
one_first S s n [] used t long spelled = absurd (omega arith)
one_first S s n (x ∷ xs) used t long (p, q, u, split, first, others) = ((x, u), xs, p, q, refl, split, first, omega arith, others)

module _ (r : Reads) (S : Spelled) (h : (s : Tables) → ReadsAs (r s) (S s)) where
  pub elements_agree : (n : ℕ) (s : Tables) → Agrees triple (elements_at r n s) (λ (x : List Plain × Tables) used. (length x.0 ≡ n) × SpellsAll S s x.0 used x.1)
  unfolding elements_at SpellsAll
  elements_agree zero s =
      weaken triple (done_agrees triple ([], s))
      (λ x used t. subst (λ (z : List Plain × Tables). (length z.0 ≡ 0) × SpellsAll S s z.0 used z.1) (sym t.0) (refl, (t.1, refl)))
      (λ x used t. let n = none_left S s x.0 used x.1 t.0 t.1 in ((λ i. (n.0 i, n.2 i)), n.1))
  elements_agree (suc n) s =
      weaken triple
      (bind_agrees triple triple _ (h s)
      (λ (first : Plain × Tables). map_agrees triple triple _ (λ (others : List Plain × Tables). (first.0 ∷ others.0, others.1))
      (elements_agree n first.1) (λ others rest. refl)))
      (λ x used t.
      let behind = t.5 in
      subst (λ (z : List Plain × Tables). (length z.0 ≡ suc n) × SpellsAll S s z.0 used z.1) (sym behind.1)
      (ap suc behind.2.0, (t.1, t.2, t.0.1, t.3, t.4, behind.2.1)))
      (λ x used t.
      let o = one_first S s n x.0 used x.1 t.0 t.1 in
      (o.0, o.2, o.3, o.5, o.6, ((o.1, x.1), (λ i. (o.4 i, x.1)), (o.7, o.8))))

module _ (r : Kind → Reads) (S : Kind → Spelled) (h : (k : Kind) (s : Tables) → ReadsAs (r k s) (S k s)) where
  pub members_agree : (ks : List Kind) (s : Tables) → Agrees triple (members_at r ks s) (λ (x : List Plain × Tables) used. SpellsEach S ks s x.0 used x.1)
  unfolding members_at SpellsEach
  members_agree [] s =
      weaken triple (done_agrees triple ([], s))
      (λ x used t. (ap (λ (z : List Plain × Tables). z.0) t.0, t.1, ap (λ (z : List Plain × Tables). z.1) t.0))
      (λ x used t. ((λ i. (t.0 i, t.2 i)), t.1))
  members_agree (k ∷ ks) s =
      weaken triple
      (bind_agrees triple triple _ (h k s)
      (λ (first : Plain × Tables). map_agrees triple triple _ (λ (others : List Plain × Tables). (first.0 ∷ others.0, others.1))
      (members_agree ks first.1) (λ others rest. refl)))
      (λ x used t.
      let behind = t.5 in (
        t.0.0,
        behind.0.0,
        t.1,
        t.2,
        t.0.1,
        ap (λ (z : List Plain × Tables). z.0) behind.1,
        t.3,
        t.4,
        subst (SpellsEach S ks t.0.1 behind.0.0 t.2) (sym (ap (λ (z : List Plain × Tables). z.1) behind.1)) behind.2,
      ))
      (λ x used t. ((t.0, t.4), t.2, t.3, t.6, t.7, ((t.1, x.1), (λ i. (t.5 i, x.1)), t.8)))

-- ---- sequences, structs and exceptions

bytes_agree : (s : Tables) → ReadsAs (bytes_at s) (SpellsBytes s)
unfolding bytes_at
bytes_agree s = part_value raw_agrees plain.bytes s

list_agrees : (r : Reads) (S : Spelled) → ((s : Tables) → ReadsAs (r s) (S s)) → (k : Kind) (s : Tables) → ReadsAs (list_at r k s) (SpellsList S k s)
unfolding list_at
list_agrees r S h k s =
    weaken triple
    (bind_agrees pair triple _ length_agrees (λ n. map_agrees triple triple _ (λ (vs : List Plain × Tables). (plain.list k (plains vs.0), vs.1)) (elements_agree r S h n s) (λ vs rest. refl)))
    (λ x used t.
    let behind = t.5 in (
      behind.0.0,
      t.1,
      t.2,
      ap (λ (z : Plain × Tables). z.0) behind.1,
      t.3,
      subst (IsLength t.1) (sym behind.2.0) t.4,
      subst (SpellsAll S s behind.0.0 t.2) (sym (ap (λ (z : Plain × Tables). z.1) behind.1)) behind.2.1,
    ))
    (λ x used t. (length t.0, t.1, t.2, t.4, t.5, ((t.0, x.1), (λ i. (t.3 i, x.1)), (refl, t.6))))

sequence_agrees : (b : Bool) (r : Reads) (S : Spelled) → ((s : Tables) → ReadsAs (r s) (S s)) → (k : Kind) (s : Tables)
    → ReadsAs (λ bs. if b then bytes_at s bs else list_at r k s bs) (SpellsSequence b S k s)
sequence_agrees true r S h k s = bytes_agree s
sequence_agrees false r S h k s = list_agrees r S h k s

tuple_agrees : (r : Kind → Reads) (S : Kind → Spelled) → ((k : Kind) (s : Tables) → ReadsAs (r k s) (S k s)) → (ks : List Kind) (name : List ℕ) (s : Tables)
    → ReadsAs (tuple_at r ks name s) (SpellsTuple S ks name s)
unfolding tuple_at
tuple_agrees r S h ks name s =
    weaken triple (map_agrees triple triple _ (λ (vs : List Plain × Tables). (plain.tuple name (plains vs.0), vs.1)) (members_agree r S h ks s) (λ vs rest. refl))
    (λ x used t. (t.0.0, ap (λ (z : Plain × Tables). z.0) t.1, subst (SpellsEach S ks s t.0.0 used) (sym (ap (λ (z : Plain × Tables). z.1) t.1)) t.2))
    (λ x used t. ((t.0, x.1), (λ i. (t.1 i, x.1)), t.2))

-- ---- types, objects, and any value

kind_value : (reg : List Entity) (r : Kind → Reads) (s : Tables) → list_all is_named reg ≡ true → ReadsAs (value_step reg r kd.kind s)
    (λ x used t. (k : Kind) × (after : Table) × (x ≡ plain.kind k) × SpellsKind reg s.types k used after × (t ≡ with_types s after))
unfolding value_step
kind_value reg r s named =
    weaken triple (map_agrees triple triple _ (λ (y : Kind × Table). (plain.kind y.0, with_types s y.1)) (kind_agrees reg s.types named) (λ y rest. refl))
    (λ x used t. (t.0.0, t.0.1, ap (λ (z : Plain × Tables). z.0) t.1, t.2, ap (λ (z : Plain × Tables). z.1) t.1))
    (λ x used t. ((t.0, t.1), (λ i. (t.2 i, t.4 i)), t.3))

interface_value : (reg : List Entity) (r : Kind → Reads) (face : List ℕ) (s : Tables) → ReadsAs (value_step reg r (kd.interface face) s)
    (λ x used t. (oid : Option (List ℕ)) × (after : Table) × (x ≡ plain.ref (ref_of oid face)) × SpellsOid s.oids oid used after × (t ≡ with_oids s after))
unfolding value_step
interface_value reg r face s =
    weaken triple (map_agrees triple triple _ (λ (y : Option (List ℕ) × Table). (plain.ref (ref_of y.0 face), with_oids s y.1)) (oid_agrees s.oids) (λ y rest. refl))
    (λ x used t. (t.0.0, t.0.1, ap (λ (z : Plain × Tables). z.0) t.1, t.2, ap (λ (z : Plain × Tables). z.1) t.1))
    (λ x used t. ((t.0, t.1), (λ i. (t.2 i, t.4 i)), t.3))

-- the type any by its test
not_any : (k : Kind) → is_any k ≡ false → k ≢ kd.any
not_any k other is = let bad : true ≡ false = ap is_any (sym is) ∙ other in cc

is_not_any : (k : Kind) → k ≢ kd.any → is_any k ≡ false
is_not_any kd.any other = absurd (other refl)
is_not_any _ other = refl

any_value : (reg : List Entity) (r : Kind → Reads) (S : Kind → Spelled) → ((k : Kind) (s : Tables) → ReadsAs (r k s) (S k s)) → (s : Tables) → list_all is_named reg ≡ true
    → ReadsAs (any_at reg r s)
    (λ x used t. (k : Kind) × (v : Plain) × (p : List ℕ) × (q : List ℕ) × (after : Table) × (x ≡ plain.any k v) × (used ≡ p ++ q) × SpellsKind reg s.types k p after × (k ≢ kd.any)
    × S k (with_types s after) v q t)
unfolding any_at content_at
any_value reg r S h s named =
    weaken triple
    (bind_agrees triple triple _ (kind_agrees reg s.types named) (λ (y : Kind × Table). choice_agrees triple (is_any y.0) (λ is. fail_agrees triple BadAny)
    (λ is. map_agrees triple triple _ (λ (v : Plain × Tables). (plain.any y.0 v.0, v.1)) (h y.0 (with_types s y.1)) (λ v rest. refl))))
    (λ x used t. elim t.5 [
      | inl bad ↦ absurd bad.1
      | inr good ↦
          let v = good.1 in (
            t.0.0,
            v.0.0,
            t.1,
            t.2,
            t.0.1,
            ap (λ (z : Plain × Tables). z.0) v.1,
            t.3,
            t.4,
            not_any t.0.0 good.0,
            subst (S t.0.0 (with_types s t.0.1) v.0.0 t.2) (sym (ap (λ (z : Plain × Tables). z.1) v.1)) v.2,
          )
    ])
    (λ x used t. ((t.0, t.4), t.2, t.3, t.6, t.7, inr (is_not_any t.0 t.8, ((t.1, x.1), (λ i. (t.5 i, x.1)), t.9))))

-- ---- all types

step_agrees : (reg : List Entity) (r : Kind → Reads) (S : Kind → Spelled) → list_all is_named reg ≡ true
    → ((k : Kind) (s : Tables) → ReadsAs (r k s) (S k s)) → (k : Kind) (s : Tables)
    → ReadsAs (value_step reg r k s) (SpellsStep reg S k s)
unfolding value_step SpellsStep
step_agrees reg r S named h kd.void s =
    weaken triple (done_agrees triple (plain.void, s))
    (λ x used t. (ap (λ (z : Plain × Tables). z.0) t.0, t.1, ap (λ (z : Plain × Tables). z.1) t.0)) (λ x used t. ((λ i. (t.0 i, t.2 i)), t.1))
step_agrees reg r S named h kd.char s = part_value (number_agrees w16) plain.char s
step_agrees reg r S named h kd.boolean s = boolean_value reg r s
step_agrees reg r S named h kd.byte s = part_value byte_agrees (λ n. plain.byte (cast_signed w8 n)) s
step_agrees reg r S named h kd.short s = part_value (number_agrees w16) (λ n. plain.short (cast_signed w16 n)) s
step_agrees reg r S named h kd.unsigned_short s = part_value (number_agrees w16) plain.unsigned_short s
step_agrees reg r S named h kd.long s = part_value (number_agrees w32) (λ n. plain.long (cast_signed w32 n)) s
step_agrees reg r S named h kd.unsigned_long s = part_value (number_agrees w32) plain.unsigned_long s
step_agrees reg r S named h kd.hyper s = part_value (number_agrees w64) (λ n. plain.hyper (cast_signed w64 n)) s
step_agrees reg r S named h kd.unsigned_hyper s = part_value (number_agrees w64) plain.unsigned_hyper s
step_agrees reg r S named h kd.str s = part_value text_agrees plain.str s
step_agrees reg r S named h kd.kind s = kind_value reg r s named
step_agrees reg r S named h kd.any s = any_value reg r S h s named
step_agrees reg r S named h (kd.enum name) s = part_value (number_agrees w32) (λ n. plain.enum name (cast_signed w32 n)) s
step_agrees reg r S named h (kd.struct name) s = tuple_agrees r S h (member_kinds reg name) name s
step_agrees reg r S named h (kd.exception name) s = tuple_agrees r S h (member_kinds reg name) name s
step_agrees reg r S named h (kd.interface face) s = interface_value reg r face s
step_agrees reg r S named h (kd.sequence k) s = sequence_agrees (is_byte k) (r k) (S k) (h k) k s

-- a value of a type that is nested so deep is read as it is spelled
pub value_agrees : (levels : ℕ) (reg : List Entity) → list_all is_named reg ≡ true → (k : Kind) (s : Tables) → ReadsAs (value_at levels reg k s) (Spells levels reg k s)
unfolding value_at Spells
value_agrees zero reg named k s = fail_agrees triple Deep
value_agrees (suc levels) reg named k s = step_agrees reg (value_at levels reg) (Spells levels reg) named (value_agrees levels reg named) k s
