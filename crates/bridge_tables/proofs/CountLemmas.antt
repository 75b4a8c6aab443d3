-- What is counted of namings one after the other.
use Rattle.std.proofs.Common.{◌≡◌, ℕ, zero, suc, add-one, ◌+◌, ◌≤◌, ◌<◌, true, false, nat_lt, ◌==◌, if◌then◌else◌, List, [], ◌∷◌, ◌++◌, length, map, drop, get_or, min, Option, None, Some, Result, Ok, Err, slice_get, refl, sym, ap, ◌∙◌, arith}
use Rattle.std.proofs.lemmas.Bool.Decides.{nat_tests}
use Rattle.std.proofs.lemmas.List.{at_drop_more, drop_all}
use Rattle.std.specs.Borrow.{Bor}
use Rattle.std.specs.Prelude.{OnOk}
use Rattle.message_model.specs.Calls.{kinds_on, numbered}
use Rattle.uno_entities.specs.TypeNames.{kind_of}
use Rattle.uno_entities.specs.declared.entity.Field.{Field}
use Rattle.uno_model.specs.Entities.{Entity, Param}
use Rattle.uno_model.specs.Kinds.{Kind}
use Rattle.uno_model.specs.Values.{Plain, Plains, none, more}
use Rattle.uno_values.specs.Fitting.{kinds_at}
use Rattle.uno_values.specs.Values.{plain_of, plains_of}
use Rattle.uno_values.specs.declared.value.Value.{Value}
use Rattle.urp_model.specs.Namings.{Naming, namings, namings_each, namings_all}
use Rattle.table_model.specs.Stubs.{Stubs}
use Rattle.bridge_model.specs.References.{counts_one, counts_sent}
use Rattle.bridge_objects.specs.Kept.{Kept}
use Rattle.uno_model.specs.Functions.{Function}
use Rattle.bridge_tables.specs.Counted.{counted, with_stubs, carries, carried_by, one_or_none}
use Rattle.message_model.specs.MessageNamings.{answer_namings, message_namings}
use Rattle.message_model.specs.Messages.{Answer, returned, Message, release, reply}
use Rattle.message_model.specs.Sayable.{result_of, outs_of}
use Rattle.bridge_tables.specs.declared.counting.Phase.TheVariants.{Reply}
use Rattle.uno_model.specs.Values.{plains}
use Rattle.bridge_tables.specs.declared.counting.Phase.{Phase}

sent_append : (ns ms : List Naming) (stubs : Stubs) → counts_sent (ns ++ ms) stubs ≡ counts_sent ms (counts_sent ns stubs)
unfolding counts_sent
sent_append [] ms stubs = refl
sent_append (n ∷ ns) ms stubs = sent_append ns ms (counts_one n stubs)

pub counted_none : (a : Kept) → counted [] a ≡ a
unfolding counts_sent
counted_none a = refl

-- these, and then those
pub counted_on : (ns ms : List Naming) (a b c : Kept) → b ≡ counted ns a → c ≡ counted ms b → c ≡ counted (ns ++ ms) a
counted_on ns ms a b c first second = second ∙ ap (counted ms) first ∙ ap (λ s. with_stubs s a) (sym (sent_append ns ms a.stubs))

-- nothing but the stubs changes, twice
pub kept_on : (a b c : Kept) → with_stubs a.stubs b ≡ a → with_stubs b.stubs c ≡ b → with_stubs a.stubs c ≡ a
kept_on a b c first second = ap (with_stubs a.stubs) second ∙ first

-- the rest counts what these and the rest count
pub counted_next : (ns ms : List Naming) (old before after : Kept) → after ≡ counted ns before → counted (ns ++ ms) before ≡ old → counted ms after ≡ old
counted_next ns ms old before after here all = ap (counted ms) here ∙ ap (λ s. with_stubs s before) (sym (sent_append ns ms before.stubs)) ∙ all

-- ---- values of one type, and of several

module _ (reg : List Entity) where
  all_next : (k : Kind) (xs : List Value) (i : ℕ) (x : Value) → i < length xs → x ≡ get_or xs i x
      → namings_all reg (plains_of (drop i xs)) k ≡ namings reg (plain_of x) k ++ namings_all reg (plains_of (drop (i + 1) xs)) k
  unfolding namings_all
  all_next k xs i x within is =
      at_drop_more (λ ys. namings_all reg (plains_of ys) k) xs i x within ∙ ap (λ y. namings reg (plain_of y) k ++ namings_all reg (plains_of (drop (i + 1) xs)) k) (sym is)

  pub counted_all : (k : Kind) (xs : List Value) (i : ℕ) (x : Value) (old before after : Kept) → i < length xs → x ≡ get_or xs i x → after ≡ counted (namings reg (plain_of x) k) before
      → counted (namings_all reg (plains_of (drop i xs)) k) before ≡ old → counted (namings_all reg (plains_of (drop (i + 1) xs)) k) after ≡ old
  counted_all k xs i x old before after within is here all =
      counted_next (namings reg (plain_of x) k) (namings_all reg (plains_of (drop (i + 1) xs)) k) old before after here (ap (λ ns. counted ns before) (sym (all_next k xs i x within is)) ∙ all)

  each_next : (xs : List Value) (fs : List (Bor Field)) (i : ℕ) (x : Value) (f : Bor Field) → i < length xs → i < length fs → x ≡ get_or xs i x
      → namings_each reg (plains_of (drop i xs)) (kinds_at (drop i fs))
      ≡ namings reg (plain_of x) (kind_of (get_or fs i f).now.kind) ++ namings_each reg (plains_of (drop (i + 1) xs)) (kinds_at (drop (i + 1) fs))
  unfolding namings_each
  each_next xs fs i x f within among is =
      at_drop_more (λ ys. namings_each reg (plains_of ys) (kinds_at (drop i fs))) xs i x within
      ∙ at_drop_more (λ gs. namings_each reg (plains_of (get_or xs i x ∷ drop (i + 1) xs)) (kinds_at gs)) fs i f among
      ∙ ap (λ y. namings reg (plain_of y) (kind_of (get_or fs i f).now.kind) ++ namings_each reg (plains_of (drop (i + 1) xs)) (kinds_at (drop (i + 1) fs))) (sym is)

  pub counted_each : (xs : List Value) (fs : List (Bor Field)) (i : ℕ) (x : Value) (f : Bor Field) (old before after : Kept) → i < length xs → i < length fs → x ≡ get_or xs i x
      → after ≡ counted (namings reg (plain_of x) (kind_of (get_or fs i f).now.kind)) before → counted (namings_each reg (plains_of (drop i xs)) (kinds_at (drop i fs))) before ≡ old
      → counted (namings_each reg (plains_of (drop (i + 1) xs)) (kinds_at (drop (i + 1) fs))) after ≡ old
  counted_each xs fs i x f old before after within among is here all =
      counted_next (namings reg (plain_of x) (kind_of (get_or fs i f).now.kind)) (namings_each reg (plains_of (drop (i + 1) xs)) (kinds_at (drop (i + 1) fs))) old before after here
      (ap (λ ns. counted ns before) (sym (each_next xs fs i x f within among is)) ∙ all)

  no_kinds : (vs : Plains) → namings_each reg vs [] ≡ []
  unfolding namings_each
  no_kinds none = refl
  no_kinds (more v vs) = refl

  no_values : (ks : List Kind) → namings_each reg none ks ≡ []
  unfolding namings_each
  no_values ks = refl

  each_done : (xs : List Value) (fs : List (Bor Field)) (i : ℕ) → min (length xs) (length fs) ≤ i → namings_each reg (plains_of (drop i xs)) (kinds_at (drop i fs)) ≡ []
  each_done xs fs i least =
      elim (nat_lt i (length xs)) as (λ b. nat_lt i (length xs) ≡ b → namings_each reg (plains_of (drop i xs)) (kinds_at (drop i fs)) ≡ []) [
        | true ↦ λ is.
            let within : i < length xs = grind (arith, nat_tests) in
            let past : length fs ≤ i = omega arith in
            ap (λ gs. namings_each reg (plains_of (drop i xs)) (kinds_at gs)) (drop_all i fs past) ∙ no_kinds (plains_of (drop i xs))
        | false ↦ λ is.
            let past : length xs ≤ i = grind (arith, nat_tests) in
            ap (λ ys. namings_each reg (plains_of ys) (kinds_at (drop i fs))) (drop_all i xs past) ∙ no_values (kinds_at (drop i fs))
      ] refl

  pub counted_done : (xs : List Value) (fs : List (Bor Field)) (i : ℕ) (old now : Kept) → min (length xs) (length fs) ≤ i → counted (namings_each reg (plains_of (drop i xs)) (kinds_at (drop i fs))) now ≡ old → now ≡ old
  counted_done xs fs i old now least all = sym (ap (λ ns. counted ns now) (each_done xs fs i least) ∙ counted_none now) ∙ all

  -- ---- values of parameters

  -- a parameter whose value is carried, and counted
  pub param_counted : (phase : Phase) (p : Param) (ps : List Param) (v : Plain) (vs values : Plains) (old new : Kept) → values ≡ more v vs → carries phase p.way ≡ true
      → new ≡ counted (namings reg v p.kind) old → counted (namings_each reg vs (kinds_on (carries phase) ps)) new ≡ counted (namings_each reg values (kinds_on (carries phase) (p ∷ ps))) old
  unfolding kinds_on namings_each
  param_counted phase p ps v vs values old new is carried here =
      counted_next (namings reg v p.kind) (namings_each reg vs (kinds_on (carries phase) ps)) (counted (namings_each reg values (kinds_on (carries phase) (p ∷ ps))) old) old new here
      (sym
      (ap (λ ws. counted (namings_each reg ws (kinds_on (carries phase) (p ∷ ps))) old) is
      ∙ ap (λ b. counted (namings_each reg (more v vs) (if b then p.kind ∷ kinds_on (carries phase) ps else kinds_on (carries phase) ps)) old) carried))

  -- the parameters from a place on are the one that is there, if any, and those behind it
  from_place : (ps : List Param) (i : ℕ) → drop i ps ≡ one_or_none (slice_get ps i) ++ drop (suc i) ps
  from_place [] zero = refl
  from_place [] (suc i) = refl
  from_place (p ∷ ps) zero = refl
  from_place (p ∷ ps) (suc i) = from_place ps i

  pub params_counted : (phase : Phase) (ps : List Param) (i : ℕ) (o : Option Param) (values rest : Plains) (old before after : Kept) → o ≡ slice_get ps i
      → ((qs : List Param) → counted (namings_each reg rest (kinds_on (carries phase) qs)) after ≡ counted (namings_each reg values (kinds_on (carries phase) (one_or_none o ++ qs))) before)
      → counted (namings_each reg values (kinds_on (carries phase) (drop i ps))) before ≡ old → counted (namings_each reg rest (kinds_on (carries phase) (drop (i + 1) ps))) after ≡ old
  params_counted phase ps i o values rest old before after is step all =
      let here : drop i ps ≡ one_or_none o ++ drop (i + 1) ps = from_place ps i ∙ (ap (λ p. one_or_none p ++ drop (suc i) ps) (sym is) ∙ ap (λ n. one_or_none o ++ drop n ps) (sym (add-one i))) in
      step (drop (i + 1) ps) ∙ (ap (λ qs. counted (namings_each reg values (kinds_on (carries phase) qs)) before) (sym here) ∙ all)

  pub params_done : (phase : Phase) (ps : List Param) (i : ℕ) (values : Plains) (old now : Kept) → length ps ≤ i → counted (namings_each reg values (kinds_on (carries phase) (drop i ps))) now ≡ old → now ≡ old
  unfolding kinds_on
  params_done phase ps i values old now past all =
      sym (ap (λ qs. counted (namings_each reg values (kinds_on (carries phase) qs)) now) (drop_all i ps past) ∙ ap (λ ns. counted ns now) (no_kinds values) ∙ counted_none now) ∙ all

  -- a function that is not there carries nothing
  pub none_carried : (phase : Phase) (o : Option Function) (values : Plains) (now : Kept) → o ≡ None → now ≡ counted (namings_each reg values (carried_by phase o)) now
  none_carried phase o values now absent =
      sym (ap (λ f. counted (namings_each reg values (carried_by phase f)) now) absent ∙ ap (λ ns. counted ns now) (no_kinds values) ∙ counted_none now)

-- what follows from a success holds of it
pub on_ok : {A E P Q : Type 0} (r : Result A E) → (P → Q) → OnOk r P → OnOk r Q
on_ok (Ok x) f p = f p
on_ok (Err e) f p = tt

-- a release names nothing in values
pub release_counted : (reg : List Entity) (m : Message) (tid oid face : List ℕ) (now : Kept) → m ≡ release tid oid face → now ≡ counted (message_namings reg m) now
unfolding message_namings
release_counted reg m tid oid face now is = sym (ap (λ n. counted (message_namings reg n) now) is ∙ counted_none now)

-- what is carried for a reply is what comes out
carried_out : (o : Option Function) → carried_by Reply o ≡ outs_of o
carried_out None = refl
carried_out (Some f) = refl

pub answer_counted : (reg : List Entity) (o : Option Function) (x : Plain) (outs : List Plain) (a : Answer) (now : Kept) → a ≡ returned x outs
    → counted (namings reg x (result_of o) ++ namings_each reg (plains outs) (carried_by Reply o)) now ≡ counted (answer_namings reg o a) now
answer_counted reg o x outs a now is =
    ap (λ ks. counted (namings reg x (result_of o) ++ namings_each reg (plains outs) ks) now) (carried_out o) ∙ ap (λ b. counted (answer_namings reg o b) now) (sym is)

-- a list of no length has nothing that is seen of it
pub none_mapped : {A B : Type 0} (f : A → B) (xs : List A) (n : ℕ) → n ≡ length xs → (n == 0) ≡ true → map f xs ≡ []
none_mapped f [] n long empty = refl
none_mapped f (x ∷ xs) n long empty = let bad : ⊥ = grind (arith, nat_tests) in absurd bad

-- a result alone that names nothing at any type makes an answer that names nothing
pub result_alone : (a : Answer) (x : Plain) (outs : List Plain) → a ≡ returned x outs → outs ≡ [] → ((reg : List Entity) (k : Kind) → namings reg x k ≡ []) → (reg : List Entity) (o : Option Function) → answer_namings reg o a ≡ []
unfolding namings_each
result_alone a x outs is empty simple reg o = ap (answer_namings reg o) (is ∙ ap (returned x) empty) ∙ ap (λ ns. ns ++ []) (simple reg (result_of o))

-- what names nothing counts nothing
pub reply_counted : (reg : List Entity) (m : Message) (tid face : List ℕ) (number : ℕ) (a : Answer) (now : Kept) → m ≡ reply tid face number a → ((o : Option Function) → answer_namings reg o a ≡ [])
    → now ≡ counted (message_namings reg m) now
unfolding message_namings
reply_counted reg m tid face number a now is nothing =
    sym (ap (λ n. counted (message_namings reg n) now) is ∙ ap (λ ns. counted ns now) (nothing (numbered reg face number)) ∙ counted_none now)
