-- The type, the object and the thread of a message are read as they are spelled.
use Rattle.std.proofs.Common.{◌≡◌, ℕ, Bool, true, false, List, ◌++◌, Option, Some, Result, refl, sym, ap, subst, ◌∙◌}
use Rattle.std.specs.List.{list_all}
use Rattle.uno_model.specs.Entities.{Entity}
use Rattle.uno_model.specs.Kinds.{Kind}
use Rattle.uno_model.specs.Sound.{is_named}
use Rattle.urp_model.specs.Agreement.{Agrees, triple}
use Rattle.urp_model.specs.ReadingNames.{kind_at, tid_at}
use Rattle.urp_model.specs.Spelling.{SpellsOid, SpellsKind, SpellsTid}
use Rattle.urp_model.specs.Tables.{Table}
use Rattle.urp_model.specs.declared.fault.Fault.{Fault}
use Rattle.urp_model.specs.declared.reason.Reason.TheVariants.{NoLast}
use Rattle.urp_model.proofs.Agreeing.{weaken, done_agrees, judged_agrees, bind_agrees, map_agrees}
use Rattle.urp_model.proofs.OidReadingLaws.{oid_agrees, tid_agrees}
use Rattle.urp_model.proofs.TypeReadingLaws.{kind_agrees}
use Rattle.message_model.specs.Headers.{Heard, Opening, Target, oid_text}
use Rattle.message_model.specs.ReadingMessages.{new_or_last_at, oid_text_at, target_at}
use Rattle.message_model.specs.SpellingMessages.{SpellsNewOrLast, SpellsOidText, SpellsTarget}

-- ---- parts of a header

pub new_or_last_agrees : {X : Type 0} (new : Bool) (last : Option X) (r : Table → List ℕ → Result (X × Table × List ℕ) Fault)
    (S : Table → X → List ℕ → Table → Type 0) → ((table : Table) → Agrees triple (r table) (λ (x : X × Table) used. S table x.0 used x.1)) → (table : Table)
    → Agrees triple (new_or_last_at new last r table) (λ (x : X × Table) used. SpellsNewOrLast new last S table x.0 used x.1)
unfolding new_or_last_at
new_or_last_agrees true last r S h table = h table
new_or_last_agrees {X = X} false last r S h table =
    weaken triple (judged_agrees triple NoLast last _ (λ x is. done_agrees triple (x, table)))
    (λ x used t. (t.1 ∙ ap (λ (z : X × Table). Some z.0) (sym t.2.0), t.2.1, ap (λ (z : X × Table). z.1) t.2.0))
    (λ x used t. (x.0, t.0, ((λ i. (x.0, t.2 i)), t.1)))

pub oid_text_agrees : (table : Table) → Agrees triple (oid_text_at table) (λ x used. SpellsOidText table x.0 used x.1)
unfolding oid_text_at
oid_text_agrees table =
    weaken triple (map_agrees triple triple _ (λ (oid : Option (List ℕ) × Table). (oid_text oid.0, oid.1)) (oid_agrees table) (λ oid rest. refl))
    (λ x used t. (
      t.0.0,
      ap (λ (z : List ℕ × Table). z.0) t.1,
      subst (SpellsOid table t.0.0 used) (sym (ap (λ (z : List ℕ × Table). z.1) t.1)) t.2,
    ))
    (λ x used t. ((t.0, x.1), (λ i. (t.1 i, x.1)), t.2))

-- ---- targets

-- a target, and what is remembered after it
abbrev target_of : Kind → List ℕ → List ℕ → Target
target_of k oid tid = record { kind = k; oid = oid; tid = tid }

abbrev heard_of : Kind → List ℕ → List ℕ → Table → Table → Table → Heard
heard_of k oid tid types oids tids = record {
  tables = record { types = types; oids = oids; tids = tids };
  last = record { kind = Some k; oid = Some oid; tid = Some tid };
}

pub target_agrees : (reg : List Entity) → list_all is_named reg ≡ true → (o : Opening) (heard : Heard)
    → Agrees triple (target_at reg o heard) (λ (x : Target × Heard) used. SpellsTarget reg o heard x.0 used x.1)
unfolding target_at
target_agrees reg named o heard =
    weaken triple
    (bind_agrees triple triple _
    (new_or_last_agrees o.new_type heard.last.kind (kind_at reg) (SpellsKind reg) (λ table. kind_agrees reg table named) heard.tables.types)
    (λ (k : Kind × Table). bind_agrees triple triple _ (new_or_last_agrees o.new_oid heard.last.oid oid_text_at SpellsOidText oid_text_agrees heard.tables.oids)
    (λ (oid : List ℕ × Table). map_agrees triple triple _ (λ (tid : List ℕ × Table). (target_of k.0 oid.0 tid.0, heard_of k.0 oid.0 tid.0 k.1 oid.1 tid.1))
    (new_or_last_agrees o.new_tid heard.last.tid tid_at SpellsTid tid_agrees heard.tables.tids) (λ tid rest. refl))))
    (λ x used t.
    let behind = t.5 in
    let last = behind.5 in
    subst (λ (z : Target × Heard). SpellsTarget reg o heard z.0 used z.1) (sym last.1)
    (record {
      p = t.1;
      q = behind.1;
      r = behind.2;
      whole = t.3 ∙ ap (λ z. t.1 ++ z) behind.3;
      kind = t.4;
      oid = behind.4;
      tid = last.2;
      remembered = refl;
    }))
    (λ x used h. (
      (x.0.kind, x.1.tables.types),
      h.p,
      h.q ++ h.r,
      h.whole,
      h.kind,
      (
        (x.0.oid, x.1.tables.oids),
        h.q,
        h.r,
        refl,
        h.oid,
        ((x.0.tid, x.1.tables.tids), (λ i. (x.0, record { tables = x.1.tables; last = h.remembered i })), h.tid),
      ),
    ))
