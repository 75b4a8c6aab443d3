-- The bytes at the front of which a value of a type is spelled make one list of announcements, however it is shown that they spell it.
use Rattle.std.proofs.Common.{◌≡◌, ℕ, zero, suc, ◌+◌, Bool, true, false, List, [], ◌∷◌, ◌++◌, length, Option, None, Some, refl, sym, ap, subst, ◌∙◌, append_assoc, arith}
use Rattle.std.specs.List.{list_all}
use Rattle.uno_model.specs.Entities.{Entity}
use Rattle.uno_model.specs.Fits.{member_kinds}
use Rattle.uno_model.specs.Kinds.{Kind, name_of}
use Rattle.uno_model.specs.Kinds as kd
use Rattle.uno_model.specs.Sound.{is_named}
use Rattle.uno_model.specs.TypeClasses.{class_code, class_of}
use Rattle.uno_model.specs.Values.{Plain}
use Rattle.urp_model.specs.Agreement.{Agrees, pair}
use Rattle.urp_model.specs.Announcing.{Announcements, of_types, of_oids, before_them, announced_at, kind_announces, name_announces, oid_announces}
use Rattle.urp_model.specs.Announcing.{Announces, all_announce, each_announces, sequence_announces, step_announces, value_announces}
use Rattle.urp_model.specs.NamedKinds.{is_byte}
use Rattle.urp_model.specs.Spelling.{IsSlot, IsTextName, SpellsKind, simple, SpellsName, SpellsOid, Spelled, SpellsAll, SpellsEach, SpellsSequence, SpellsTuple, SpellsStep, Spells}
use Rattle.urp_model.specs.Spelling as spell
use Rattle.urp_model.specs.Tables.{Table, Tables, with_types}
use Rattle.urp_model.specs.declared.fault.Fault.{Fault}
use Rattle.std.specs.Prelude.{Result}
use Rattle.urp_model.proofs.ClassLaws.{class_below}
use Rattle.urp_model.proofs.FrontLaws.{IsMaker, triple_maker, one_front}
use Rattle.urp_model.specs.Agreement.{triple}
use Rattle.urp_model.proofs.PartLaws.{length_agrees, text_name_agrees, slot_agrees}
use Rattle.urp_model.proofs.TypeReadingLaws.{kind_agrees}
use Rattle.urp_model.proofs.ValueLaws.{value_agrees}

-- ---- names

pub pair_maker : {X : Type 0} → IsMaker (pair {X = X})
pair_maker {X = X} = record { apart = λ x y b c is. (ap (λ (z : X × List ℕ). z.0) is, ap (λ (z : X × List ℕ). z.1) is) }

-- what stands behind two equal fronts of two parts each
pub two_fronts : (b p q b' p' q' rest rest' : List ℕ) → b ≡ p ++ q → b' ≡ p' ++ q' → b ++ rest ≡ b' ++ rest' → p ++ (q ++ rest) ≡ p' ++ (q' ++ rest')
two_fronts b p q b' p' q' rest rest' split split' same =
    sym (append_assoc p q rest) ∙ ap (λ z. z ++ rest) (sym split) ∙ same ∙ ap (λ z. z ++ rest') split' ∙ append_assoc p' q' rest'

same_slot : (slot slot' : ℕ) (q q' rest rest' : List ℕ) → IsSlot q slot → IsSlot q' slot' → q ++ rest ≡ q' ++ rest' → (slot ≡ slot') × (rest ≡ rest')
same_slot slot slot' q q' rest rest' is is' same = let one = one_front pair pair_maker slot_agrees slot slot' q q' rest rest' is is' same in (one.0, one.2)

same_announced : (slot slot' : ℕ) (name name' : List ℕ) → slot ≡ slot' → name ≡ name' → announced_at slot name ≡ announced_at slot' name'
same_announced slot slot' name name' p q = ap (λ z. announced_at z name) p ∙ ap (announced_at slot') q

-- a class byte has the mark of a name that is written out, or not
unmarked : (k k' : Kind) (q q' : List ℕ) → class_code (class_of k) ∷ q ≡ (class_code (class_of k') + 128) ∷ q' → ⊥
unmarked k k' q q' same =
    let heads : class_code (class_of k) ≡ class_code (class_of k') + 128 = cc in
    omega (arith, class_below (class_of k))

class_behind : (k k' : Kind) (q q' : List ℕ) → (class_code (class_of k) + 128) ∷ q ≡ (class_code (class_of k') + 128) ∷ q' → q ≡ q'
class_behind k k' q q' same = cc

module _ (reg : List Entity) where
  pub kind_same : (table table' : Table) (k k' : Kind) (b b' : List ℕ) (after after' : Table) (rest rest' : List ℕ) (f : SpellsKind reg table k b after)
      (g : SpellsKind reg table' k' b' after') → b ++ rest ≡ b' ++ rest' → kind_announces reg table k b after f ≡ kind_announces reg table' k' b' after' g
  unfolding kind_announces
  kind_same table table' k k' b b' after after' rest rest' (simple is split same) (simple is' split' same') e = refl
  kind_same table table' k k' b b' after after' rest rest' (simple is split same) (spell.held q' slot' other' is' split' slot_is' meant' same') e = refl
  kind_same table table' k k' b b' after after' rest rest' (simple is split same) (spell.written q' p' slot' other' is' split' slot_is' name_is' same') e =
      absurd (unmarked k k' rest ((q' ++ p') ++ rest') (ap (λ z. z ++ rest) (sym split) ∙ e ∙ ap (λ z. z ++ rest') split'))
  kind_same table table' k k' b b' after after' rest rest' (spell.held q slot other is split slot_is meant same) (simple is' split' same') e = refl
  kind_same table table' k k' b b' after after' rest rest' (spell.held q slot other is split slot_is meant same) (spell.held q' slot' other' is' split' slot_is' meant' same') e = refl
  kind_same table table' k k' b b' after after' rest rest' (spell.held q slot other is split slot_is meant same)
      (spell.written q' p' slot' other' is' split' slot_is' name_is' same') e =
      absurd (unmarked k k' (q ++ rest) ((q' ++ p') ++ rest') (ap (λ z. z ++ rest) (sym split) ∙ e ∙ ap (λ z. z ++ rest') split'))
  kind_same table table' k k' b b' after after' rest rest' (spell.written q p slot other is split slot_is name_is same) (simple is' split' same') e =
      absurd (unmarked k' k rest' ((q ++ p) ++ rest) (sym (ap (λ z. z ++ rest) (sym split) ∙ e ∙ ap (λ z. z ++ rest') split')))
  kind_same table table' k k' b b' after after' rest rest' (spell.written q p slot other is split slot_is name_is same)
      (spell.held q' slot' other' is' split' slot_is' meant' same') e =
      absurd (unmarked k' k (q' ++ rest') ((q ++ p) ++ rest) (sym (ap (λ z. z ++ rest) (sym split) ∙ e ∙ ap (λ z. z ++ rest') split')))
  kind_same table table' k k' b b' after after' rest rest' (spell.written q p slot other is split slot_is name_is same)
      (spell.written q' p' slot' other' is' split' slot_is' name_is' same') e =
      let behind = class_behind k k' ((q ++ p) ++ rest) ((q' ++ p') ++ rest') (ap (λ z. z ++ rest) (sym split) ∙ e ∙ ap (λ z. z ++ rest') split') in
      let slots = same_slot slot slot' q q' (p ++ rest) (p' ++ rest') slot_is slot_is' (two_fronts (q ++ p) q p (q' ++ p') q' p' rest rest' refl refl behind) in
      let names = one_front pair pair_maker text_name_agrees (name_of k) (name_of k') p p' rest rest' name_is name_is' slots.1 in
      same_announced slot slot' (name_of k) (name_of k') slots.0 names.0

module _ (IsName : List ℕ → List ℕ → Type 0) {r : List ℕ → Result (List ℕ × List ℕ) Fault} (agrees : Agrees pair r (λ name used. IsName used name)) where
  pub name_same : (table table' : Table) (name name' b b' : List ℕ) (after after' : Table) (rest rest' : List ℕ) (f : SpellsName IsName table name b after)
      (g : SpellsName IsName table' name' b' after') → b ++ rest ≡ b' ++ rest' → name_announces IsName table name b after f ≡ name_announces IsName table' name' b' after' g
  unfolding name_announces
  name_same table table' name name' b b' after after' rest rest' (spell.SpellsName.held p q slot split name_is slot_is meant same)
      (spell.SpellsName.held p' q' slot' split' name_is' slot_is' meant' same') e = refl
  name_same table table' name name' b b' after after' rest rest' (spell.SpellsName.held p q slot split name_is slot_is meant same)
      (spell.SpellsName.written p' q' slot' some' split' name_is' slot_is' same') e =
      let one = one_front pair pair_maker agrees [] name' p p' (q ++ rest) (q' ++ rest') name_is name_is' (two_fronts b p q b' p' q' rest rest' split split' e) in
      absurd (some' (sym one.0))
  name_same table table' name name' b b' after after' rest rest' (spell.SpellsName.written p q slot some split name_is slot_is same)
      (spell.SpellsName.held p' q' slot' split' name_is' slot_is' meant' same') e =
      let one = one_front pair pair_maker agrees name [] p p' (q ++ rest) (q' ++ rest') name_is name_is' (two_fronts b p q b' p' q' rest rest' split split' e) in
      absurd (some one.0)
  name_same table table' name name' b b' after after' rest rest' (spell.SpellsName.written p q slot some split name_is slot_is same)
      (spell.SpellsName.written p' q' slot' some' split' name_is' slot_is' same') e =
      let one = one_front pair pair_maker agrees name name' p p' (q ++ rest) (q' ++ rest') name_is name_is' (two_fronts b p q b' p' q' rest rest' split split' e) in
      let slots = same_slot slot slot' q q' rest rest' slot_is slot_is' one.2 in
      same_announced slot slot' name name' slots.0 one.0

  -- no name is written out where an empty one stands
  pub empty_same : (table table' : Table) (name b p q b' : List ℕ) (after' : Table) (rest rest' : List ℕ) → b ≡ p ++ q → IsName p [] → (g : SpellsName IsName table' name b' after')
      → b ++ rest ≡ b' ++ rest' → [] ≡ name_announces IsName table' name b' after' g
  unfolding name_announces
  empty_same table table' name b p q b' after' rest rest' split name_is (spell.SpellsName.held p' q' slot' split' name_is' slot_is' meant' same') e = refl
  empty_same table table' name b p q b' after' rest rest' split name_is (spell.SpellsName.written p' q' slot' some' split' name_is' slot_is' same') e =
      let one = one_front pair pair_maker agrees [] name p p' (q ++ rest) (q' ++ rest') name_is name_is' (two_fronts b p q b' p' q' rest rest' split split' e) in
      absurd (some' (sym one.0))

pub oid_same : (table table' : Table) (oid oid' : Option (List ℕ)) (b b' : List ℕ) (after after' : Table) (rest rest' : List ℕ) (f : SpellsOid table oid b after)
    (g : SpellsOid table' oid' b' after') → b ++ rest ≡ b' ++ rest' → oid_announces table oid b after f ≡ oid_announces table' oid' b' after' g
unfolding oid_announces
oid_same table table' None None b b' after after' rest rest' f g e = refl
oid_same table table' None (Some oid') b b' after after' rest rest' (p, q, split, name_is, number, same) g e =
    empty_same IsTextName text_name_agrees table table' oid' b p q b' after' rest rest' split name_is g.0 e
oid_same table table' (Some oid) None b b' after after' rest rest' f (p, q, split, name_is, number, same) e =
    sym (empty_same IsTextName text_name_agrees table' table oid b' p q b after rest' rest split name_is f.0 (sym e))
oid_same table table' (Some oid) (Some oid') b b' after after' rest rest' f g e =
    name_same IsTextName text_name_agrees table table' oid oid' b b' after after' rest rest' f.0 g.0 e

-- ---- values

-- two values at the front of the same bytes are one, and so is what the slots mean after them and what stands behind them
abbrev pub One : (Kind → Spelled) → Type 0
One S = (k : Kind) (s t t' : Tables) (x x' : Plain) (b b' rest rest' : List ℕ) → S k s x b t → S k s x' b' t' → b ++ rest ≡ b' ++ rest' → (t ≡ t') × (rest ≡ rest')

-- and so is what they announce
abbrev pub Same : (S : Kind → Spelled) → Announces S → Type 0
Same S each = (k : Kind) (s t t' : Tables) (x x' : Plain) (b b' rest rest' : List ℕ) (f : S k s x b t) (g : S k s x' b' t') → b ++ rest ≡ b' ++ rest'
    → each k s t x b f ≡ each k s t' x' b' g

pub both : (a b c d : Announcements) → a ≡ c → b ≡ d → before_them a b ≡ before_them c d
both a b c d p q = λ i. before_them (p i) (q i)

module _ (S : Kind → Spelled) (each : Announces S) (one : One S) (h : Same S each) where
  -- the type and the tables are the same ones
  pub same_at : (k k' : Kind) (s s' t t' : Tables) (x x' : Plain) (b b' rest rest' : List ℕ) (f : S k s x b t) (g : S k' s' x' b' t') → k ≡ k' → s ≡ s' → b ++ rest ≡ b' ++ rest'
      → each k s t x b f ≡ each k' s' t' x' b' g
  same_at k k' s s' t t' x x' b b' rest rest' f g kinds tables e = subst (λ z. At z s') kinds (subst (At k) tables base) t' x' b' rest' g e
    where
      At : Kind → Tables → Type 0
      At k' s' = (t' : Tables) (x' : Plain) (b' rest' : List ℕ) (g : S k' s' x' b' t') → b ++ rest ≡ b' ++ rest' → each k s t x b f ≡ each k' s' t' x' b' g

      base : At k s
      base t' x' b' rest' g e = h k s t t' x x' b b' rest rest' f g e

  one_at : (k : Kind) (s s' t t' : Tables) (x x' : Plain) (b b' rest rest' : List ℕ) → S k s x b t → S k s' x' b' t' → s ≡ s' → b ++ rest ≡ b' ++ rest' → (t ≡ t') × (rest ≡ rest')
  one_at k s s' t t' x x' b b' rest rest' f g tables e = one k s t t' x x' b b' rest rest' f (subst (λ u. S k u x' b' t') (sym tables) g) e

  all_same : (k : Kind) (s s' t t' : Tables) (xs xs' : List Plain) (b b' rest rest' : List ℕ) (f : SpellsAll (S k) s xs b t) (g : SpellsAll (S k) s' xs' b' t')
      → length xs ≡ length xs' → s ≡ s' → b ++ rest ≡ b' ++ rest' → all_announce S each k s t xs b f ≡ all_announce S each k s' t' xs' b' g
  unfolding SpellsAll all_announce
  all_same k s s' t t' [] [] b b' rest rest' f g long tables e = refl
  all_same k s s' t t' [] (y ∷ ys) b b' rest rest' f g long tables e = let bad : ⊥ = omega (arith, long) in absurd bad
  all_same k s s' t t' (x ∷ xs) [] b b' rest rest' f g long tables e = let bad : ⊥ = omega (arith, long) in absurd bad
  all_same k s s' t t' (x ∷ xs) (y ∷ ys) b b' rest rest' (p, q, u, split, first, others) (p', q', u', split', first', others') long tables e =
      let fronts = two_fronts b p q b' p' q' rest rest' split split' e in
      let next = one_at k s s' u u' x y p p' (q ++ rest) (q' ++ rest') first first' tables fronts in
      both (all_announce S each k u t xs q others) (each k s u x p first) (all_announce S each k u' t' ys q' others') (each k s' u' y p' first')
      (all_same k u u' t t' xs ys q q' rest rest' others others' (omega (arith, long)) next.0 next.1)
      (same_at k k s s' u u' x y p p' (q ++ rest) (q' ++ rest') first first' refl tables fronts)

  pub each_same : (ks : List Kind) (s s' t t' : Tables) (xs xs' : List Plain) (b b' rest rest' : List ℕ) (f : SpellsEach S ks s xs b t) (g : SpellsEach S ks s' xs' b' t')
      → s ≡ s' → b ++ rest ≡ b' ++ rest' → each_announces S each ks s t xs b f ≡ each_announces S each ks s' t' xs' b' g
  unfolding SpellsEach each_announces
  each_same [] s s' t t' xs xs' b b' rest rest' f g tables e = refl
  each_same (k ∷ ks) s s' t t' xs xs' b b' rest rest' (y, ys, p, q, u, parts, split, first, others) (y', ys', p', q', u', parts', split', first', others') tables e =
      let fronts = two_fronts b p q b' p' q' rest rest' split split' e in
      let next = one_at k s s' u u' y y' p p' (q ++ rest) (q' ++ rest') first first' tables fronts in
      both (each_announces S each ks u t ys q others) (each k s u y p first) (each_announces S each ks u' t' ys' q' others') (each k s' u' y' p' first')
      (each_same ks u u' t t' ys ys' q q' rest rest' others others' next.0 next.1)
      (same_at k k s s' u u' y y' p p' (q ++ rest) (q' ++ rest') first first' refl tables fronts)

  sequence_same : (bytes : Bool) (k : Kind) (s t t' : Tables) (x x' : Plain) (b b' rest rest' : List ℕ) (f : SpellsSequence bytes (S k) k s x b t)
      (g : SpellsSequence bytes (S k) k s x' b' t') → b ++ rest ≡ b' ++ rest' → sequence_announces S each bytes k s t x b f ≡ sequence_announces S each bytes k s t' x' b' g
  sequence_same true k s t t' x x' b b' rest rest' f g e = refl
  sequence_same false k s t t' x x' b b' rest rest' (vs, p, q, is, split, long, spelled) (vs', p', q', is', split', long', spelled') e =
      let fronts = two_fronts b p q b' p' q' rest rest' split split' e in
      let count = one_front pair pair_maker length_agrees (length vs) (length vs') p p' (q ++ rest) (q' ++ rest') long long' fronts in
      all_same k s s t t' vs vs' q q' rest rest' spelled spelled' count.0 refl count.2

  module _ (reg : List Entity) (named : list_all is_named reg ≡ true) where
    pub step_same : Same (SpellsStep reg S) (step_announces reg S each)
    unfolding SpellsStep step_announces
    step_same kd.kind s t t' x x' b b' rest rest' (k, after, is, spelled, same) (k', after', is', spelled', same') e =
        ap of_types (kind_same reg s.types s.types k k' b b' after after' rest rest' spelled spelled' e)
    step_same kd.any s t t' x x' b b' rest rest' (k, v, p, q, after, is, split, type, other, inside) (k', v', p', q', after', is', split', type', other', inside') e =
        let fronts = two_fronts b p q b' p' q' rest rest' split split' e in
        let kinds = one_front triple triple_maker (kind_agrees reg s.types named) (k, after) (k', after') p p' (q ++ rest) (q' ++ rest') type type' fronts in
        let same_kinds : k ≡ k' = ap (λ (z : Kind × Table). z.0) kinds.0 in
        let same_tables : with_types s after ≡ with_types s after' = ap (λ (z : Kind × Table). with_types s z.1) kinds.0 in
        both (each k (with_types s after) t v q inside) (of_types (kind_announces reg s.types k p after type)) (each k' (with_types s after') t' v' q' inside')
        (of_types (kind_announces reg s.types k' p' after' type'))
        (same_at k k' (with_types s after) (with_types s after') t t' v v' q q' rest rest' inside inside' same_kinds same_tables kinds.2)
        (ap of_types (kind_same reg s.types s.types k k' p p' after after' (q ++ rest) (q' ++ rest') type type' fronts))
    step_same (kd.struct name) s t t' x x' b b' rest rest' (vs, is, spelled) (vs', is', spelled') e =
        each_same (member_kinds reg name) s s t t' vs vs' b b' rest rest' spelled spelled' refl e
    step_same (kd.exception name) s t t' x x' b b' rest rest' (vs, is, spelled) (vs', is', spelled') e =
        each_same (member_kinds reg name) s s t t' vs vs' b b' rest rest' spelled spelled' refl e
    step_same (kd.interface face) s t t' x x' b b' rest rest' (oid, after, is, spelled, same) (oid', after', is', spelled', same') e =
        ap of_oids (oid_same s.oids s.oids oid oid' b b' after after' rest rest' spelled spelled' e)
    step_same (kd.sequence k) s t t' x x' b b' rest rest' f g e = sequence_same (is_byte k) k s t t' x x' b b' rest rest' f g e
    step_same _ s t t' x x' b b' rest rest' f g e = refl

module _ (reg : List Entity) (named : list_all is_named reg ≡ true) where
  pub one_value : (levels : ℕ) → One (Spells levels reg)
  one_value levels k s t t' x x' b b' rest rest' f g e =
      let one = one_front triple triple_maker (value_agrees levels reg named k s) (x, t) (x', t') b b' rest rest' f g e in
      (ap (λ (z : Plain × Tables). z.1) one.0, one.2)

  pub value_same : (levels : ℕ) → Same (Spells levels reg) (value_announces levels reg)
  unfolding Spells value_announces
  value_same zero k s t t' x x' b b' rest rest' f g e = absurd f
  value_same (suc levels) k s t t' x x' b b' rest rest' f g e =
      step_same (Spells levels reg) (value_announces levels reg) (one_value levels) (value_same levels) reg named k s t t' x x' b b' rest rest' f g e
