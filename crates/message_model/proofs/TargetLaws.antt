-- The header that a sender writes spells whom it calls, and the reader goes on to answer to the sender.
use Rattle.std.proofs.Common.{◌≡◌, ℕ, Bool, true, false, not, List, Option, None, Some, refl, sym, ap, subst}
use Rattle.std.proofs.lemmas.Slice.Eq.{bytes_eq-Decides}
use Rattle.std.specs.Bool.{Decides}
use Rattle.std.specs.Str.{bytes_eq, IsUtf8}
use Rattle.uno_model.specs.Entities.{Entity}
use Rattle.uno_model.specs.Fits.{IsIdentity, IsInterface}
use Rattle.uno_model.specs.Kinds.{Kind}
use Rattle.uno_model.specs.Kinds as kd
use Rattle.uno_model.specs.Sound.{IsSound}
use Rattle.urp_model.specs.Carried.{Corresponds}
use Rattle.urp_model.specs.Held.{used}
use Rattle.urp_model.specs.Spelling.{SpellsKind, SpellsTid}
use Rattle.urp_model.specs.Tables.{Table}
use Rattle.urp_model.specs.Writing.{Names, kind_spelling, kind_after, name_spelling}
use Rattle.urp_model.proofs.PieceLaws.{kind_is, oid_is, tid_is}
use Rattle.message_model.specs.Headers.{Last, Heard, Target}
use Rattle.message_model.specs.Sayable.{IsThread, MemoriesCorrespond}
use Rattle.message_model.specs.SpellingMessages.{SpellsNewOrLast, SpellsOidText, SpellsTarget}
use Rattle.message_model.specs.WritingMessages.{Spoken, is_new, is_new_face, if_new, held_if_new, Heading, target_spelling, after_target}
use Rattle.message_model.proofs.OpeningLaws.{opening_of}

-- ---- parts that are new, or the last ones

-- what is not new is the last one
same_bytes : (x y : List ℕ) → not (bytes_eq x y) ≡ false → x ≡ y
same_bytes x y is = by_test (bytes_eq x y) (bytes_eq-Decides x y) is
  where
    by_test : (b : Bool) → Decides b (x ≡ y) → not b ≡ false → x ≡ y
    by_test true d old = d.0 refl
    by_test false d old = absurd cc

not_new : (name : List ℕ) (last : Option (List ℕ)) → is_new name last ≡ false → last ≡ Some name
not_new name None is = absurd cc
not_new name (Some last) is = ap Some (sym (same_bytes name last is))

not_new_face : (face : List ℕ) (last : Option Kind) → is_new_face face last ≡ false → last ≡ Some (kd.interface face)
not_new_face face (Some (kd.interface last)) is = ap (λ z. Some (kd.interface z)) (sym (same_bytes face last is))
not_new_face face None is = absurd cc
not_new_face face (Some kd.void) is = absurd cc
not_new_face face (Some kd.char) is = absurd cc
not_new_face face (Some kd.boolean) is = absurd cc
not_new_face face (Some kd.byte) is = absurd cc
not_new_face face (Some kd.short) is = absurd cc
not_new_face face (Some kd.unsigned_short) is = absurd cc
not_new_face face (Some kd.long) is = absurd cc
not_new_face face (Some kd.unsigned_long) is = absurd cc
not_new_face face (Some kd.hyper) is = absurd cc
not_new_face face (Some kd.unsigned_hyper) is = absurd cc
not_new_face face (Some kd.str) is = absurd cc
not_new_face face (Some kd.kind) is = absurd cc
not_new_face face (Some kd.any) is = absurd cc
not_new_face face (Some (kd.enum name)) is = absurd cc
not_new_face face (Some (kd.struct name)) is = absurd cc
not_new_face face (Some (kd.exception name)) is = absurd cc
not_new_face face (Some (kd.sequence k)) is = absurd cc

-- a part as it is written, and that the reader's table goes on to answer
abbrev pub PartCarried : {X : Type 0} → Bool → Option X → (Table → X → List ℕ → Table → Type 0) → Table → X → List ℕ → Names → Type 0
PartCarried new last S table x b held = (after : Table) × SpellsNewOrLast new last S table x (if_new new b) after × Corresponds after held

part_is : {X : Type 0} (new : Bool) (last : Option X) (S : Table → X → List ℕ → Table → Type 0) (table : Table) (x : X) (b : List ℕ) (held written : Names)
    → (new ≡ false → last ≡ Some x) → Corresponds table held → ((after : Table) × S table x b after × Corresponds after written)
    → PartCarried new last S table x b (held_if_new new written held)
part_is true last S table x b held written old c is = is
part_is false last S table x b held written old c is = (table, (old refl, refl, refl), c)

-- ---- the three parts

-- the thread of a header
pub thread_is : (tid : List ℕ) (last : Option (List ℕ)) (table : Table) (held : Names) → IsThread tid → Corresponds table held
    → PartCarried (is_new tid last) last SpellsTid table tid (name_spelling tid held) (held_if_new (is_new tid last) (used tid held) held)
thread_is tid last table held is c =
    part_is (is_new tid last) last SpellsTid table tid (name_spelling tid held) held (used tid held) (not_new tid last) c (tid_is tid table held is.some is.bounded c)

-- its object
object_is : (oid : List ℕ) (last : Option (List ℕ)) (table : Table) (held : Names) → IsIdentity oid → IsUtf8 oid → Corresponds table held
    → PartCarried (is_new oid last) last SpellsOidText table oid (name_spelling oid held) (held_if_new (is_new oid last) (used oid held) held)
object_is oid last table held is text c =
    let w = oid_is oid table held is.some is.bounded text c in
    part_is (is_new oid last) last SpellsOidText table oid (name_spelling oid held) held (used oid held) (not_new oid last) c (w.0, (Some oid, refl, w.1), w.2)

-- its type
face_is : (reg : List Entity) (face : List ℕ) (last : Option Kind) (table : Table) (held : Names) → IsSound reg → IsInterface reg face → Corresponds table held
    → PartCarried (is_new_face face last) last (SpellsKind reg) table (kd.interface face) (kind_spelling (kd.interface face) held)
    (held_if_new (is_new_face face last) (kind_after (kd.interface face) held) held)
face_is reg face last table held sound is c =
    part_is (is_new_face face last) last (SpellsKind reg) table (kd.interface face) (kind_spelling (kd.interface face) held) held (kind_after (kd.interface face) held)
    (not_new_face face last) c (kind_is reg table (kd.interface face) held sound.named is c)

-- ---- the target

-- whom a heading calls
abbrev pub target_of : Heading → Target
target_of h = record { kind = kd.interface h.face; oid = h.oid; tid = h.tid }

-- what a heading asks of its names
pub record CanHead (reg : List Entity) (h : Heading) : Type 0 where
  pub interface : IsInterface reg h.face
  pub object : IsIdentity h.oid
  pub text : IsUtf8 h.oid
  pub thread : IsThread h.tid

-- the header as it is written, and that the reader goes on to answer
pub target_is : (reg : List Entity) (h : Heading) (heard : Heard) (spoken : Spoken) → IsSound reg → CanHead reg h → MemoriesCorrespond heard spoken
    → (after : Heard) × SpellsTarget reg (opening_of h spoken.last) heard (target_of h) (target_spelling h spoken) after × MemoriesCorrespond after (after_target h spoken)
unfolding target_spelling after_target
target_is reg h heard spoken sound can agree =
    let k = face_is reg h.face spoken.last.kind heard.tables.types spoken.names.types sound can.interface agree.names.types in
    let o = object_is h.oid spoken.last.oid heard.tables.oids spoken.names.oids can.object can.text agree.names.oids in
    let t = thread_is h.tid spoken.last.tid heard.tables.tids spoken.names.tids can.thread agree.names.tids in
    let last : Last = record { kind = Some (kd.interface h.face); oid = Some h.oid; tid = Some h.tid } in (
      record { tables = record { types = k.0; oids = o.0; tids = t.0 }; last = last },
      record {
        p = if_new (is_new_face h.face spoken.last.kind) (kind_spelling (kd.interface h.face) spoken.names.types);
        q = if_new (is_new h.oid spoken.last.oid) (name_spelling h.oid spoken.names.oids);
        r = if_new (is_new h.tid spoken.last.tid) (name_spelling h.tid spoken.names.tids);
        whole = refl;
        kind = heard_kind k.0 k.1;
        oid = heard_oid o.0 o.1;
        tid = heard_tid t.0 t.1;
        remembered = refl;
      },
      record { names = record { types = k.2; oids = o.2; tids = t.2 }; last = refl },
    )
  where
    heard_kind : (after : Table) → SpellsNewOrLast (is_new_face h.face spoken.last.kind) spoken.last.kind (SpellsKind reg) heard.tables.types (kd.interface h.face)
        (if_new (is_new_face h.face spoken.last.kind) (kind_spelling (kd.interface h.face) spoken.names.types)) after
        → SpellsNewOrLast (is_new_face h.face spoken.last.kind) heard.last.kind (SpellsKind reg) heard.tables.types (kd.interface h.face)
        (if_new (is_new_face h.face spoken.last.kind) (kind_spelling (kd.interface h.face) spoken.names.types)) after
    heard_kind after is =
        subst (λ (l : Last). SpellsNewOrLast (is_new_face h.face spoken.last.kind) l.kind (SpellsKind reg) heard.tables.types (kd.interface h.face)
        (if_new (is_new_face h.face spoken.last.kind) (kind_spelling (kd.interface h.face) spoken.names.types)) after) (sym agree.last) is

    heard_oid : (after : Table) → SpellsNewOrLast (is_new h.oid spoken.last.oid) spoken.last.oid SpellsOidText heard.tables.oids h.oid
        (if_new (is_new h.oid spoken.last.oid) (name_spelling h.oid spoken.names.oids)) after
        → SpellsNewOrLast (is_new h.oid spoken.last.oid) heard.last.oid SpellsOidText heard.tables.oids h.oid
        (if_new (is_new h.oid spoken.last.oid) (name_spelling h.oid spoken.names.oids)) after
    heard_oid after is =
        subst (λ (l : Last). SpellsNewOrLast (is_new h.oid spoken.last.oid) l.oid SpellsOidText heard.tables.oids h.oid
        (if_new (is_new h.oid spoken.last.oid) (name_spelling h.oid spoken.names.oids)) after) (sym agree.last) is

    heard_tid : (after : Table) → SpellsNewOrLast (is_new h.tid spoken.last.tid) spoken.last.tid SpellsTid heard.tables.tids h.tid
        (if_new (is_new h.tid spoken.last.tid) (name_spelling h.tid spoken.names.tids)) after
        → SpellsNewOrLast (is_new h.tid spoken.last.tid) heard.last.tid SpellsTid heard.tables.tids h.tid
        (if_new (is_new h.tid spoken.last.tid) (name_spelling h.tid spoken.names.tids)) after
    heard_tid after is =
        subst (λ (l : Last). SpellsNewOrLast (is_new h.tid spoken.last.tid) l.tid SpellsTid heard.tables.tids h.tid
        (if_new (is_new h.tid spoken.last.tid) (name_spelling h.tid spoken.names.tids)) after) (sym agree.last) is
