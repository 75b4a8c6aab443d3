-- Tables of which all may be said: fine references may be gained, said and taken, and all may be let go.
use Rattle.std.proofs.Common.{◌≡◌, ℕ, ◌+◌, ◌≤◌, ◌<◌, ◌^◌, Bool, true, false, cond, not, ◌&&◌, ◌||◌, nat_lt, nat_le, if◌then◌else◌, List, [], ◌∷◌, ◌++◌, length, filter, Option, None, Some, refl, ap, arith}
use Rattle.std.specs.List.{list_all}
use Rattle.std.proofs.lemmas.Bool.{and_parts, and_from, leb-true}
use Rattle.std.specs.Fmt.{decimal}
use Rattle.std.proofs.lemmas.Fmt.{length-decimal-le}
use Rattle.std.proofs.lemmas.List.{length-append}
use Rattle.std.specs.Ordering.{eq_by_cmp}
use Rattle.std.specs.declared.cmp.Ordering.{Ordering}
use Rattle.message_model.specs.MessageNamings.{message_namings}
use Rattle.message_model.specs.Messages.{Message, request, release, reply}
use Rattle.message_model.specs.Sayable.{IsThread, message_weight}
use Rattle.uno_model.specs.Entities.{Entity}
use Rattle.uno_model.specs.Fits.{IsIdentity, IsInterface}
use Rattle.uno_model.specs.Kinds as kd
use Rattle.uno_model.specs.Sound.{is_namable}
use Rattle.uno_model.specs.Types.{is_formed}
use Rattle.uno_model.specs.Values.{Ref, null, own, peer}
use Rattle.uno_model.specs.Weights.{compressed_weight, text_weight}
use Rattle.urp_model.specs.Namings.{Naming}
use Rattle.table_model.specs.Bags.{how_many, one_more, one_less}
use Rattle.table_model.specs.Holdings.{Hold, hold, hold_cmp, Holdings, outlasts}
use Rattle.table_model.specs.Pair.{Pair, pair, pair_cmp}
use Rattle.table_model.specs.Rows.{without}
use Rattle.table_model.specs.Stubs.{Stubs, stub, sent_again, sent_one, is_last, released_from, released_one}
use Rattle.table_model.specs.declared.holder.Holder.{Holder}
use Rattle.table_model.specs.declared.stub.Stub.{Stub}
use Rattle.table_model.proofs.BagLaws.{how_many_one_more}
use Rattle.table_model.proofs.PairLaws.{same_pair}
use Rattle.std.specs.FinMap as rows
use Rattle.bridge_model.specs.Ends.{tables_at_end}
use Rattle.bridge_model.specs.Objects.{object_supports}
use Rattle.bridge_model.specs.References.{counts_one, counts_sent, says, releases, gains, gains_all, is_held, takes, takes_all, loses, loses_all, stays, gives_back, holds_ref, lets_go, lets_go_all}
use Rattle.bridge_model.specs.Saying.{IsSayable}
use Rattle.bridge_model.specs.Settings.{Setting, prefix, root_tid, release_tid, own_oid, is_told}
use Rattle.bridge_model.specs.Sides.{Object, Tables}
use Rattle.bridge_model.specs.declared.cause.Cause.{Cause}
use Rattle.bridge_laws.specs.Counting.{total, one_if}
use Rattle.bridge_laws.proofs.NamingLaws.{message_refs}
use Rattle.bridge_laws.proofs.StrayLaws.{fewer_kept, more_put, found_passes}
use Rattle.bridge_laws.specs.Telling.{referred, IsRightlySaid, AreRightlySaid}
use Rattle.bridge_laws.proofs.Fine.{is_fine_own, is_fine_peer, wrong}
use Rattle.bridge_laws.proofs.TypedGiven.{IsGiven}
use Rattle.bridge_laws.proofs.TablesFit.{is_wrong_pair, held_wrong, is_unsupported, sent_wrong, TablesFit}
use Rattle.bridge_laws.proofs.FineLaws.{own_fine, peer_fine}
use Rattle.bridge_laws.proofs.NamedLaws.{unsupported, message_named}

-- ---- weights and names

compressed_most : (n : ℕ) → compressed_weight n ≤ 5
compressed_most n = elim (nat_lt n 255) as (λ b. (if b then 1 else 5) ≤ 5) [ true ↦ omega arith | false ↦ omega arith ]

pub text_most : (s : List ℕ) → text_weight s ≤ 5 + length s
text_most s = let most = compressed_most (length s) in omega arith

pub face_short : (reg : List Entity) (face : List ℕ) → IsInterface reg face → length face ≤ 4096
face_short reg face there =
    let namable = and_parts (is_formed reg (kd.interface face)) (is_namable (kd.interface face)) there in
    leb-true (length face) 4096 (and_parts (nat_le (length face) 4096) true namable.1).0

-- the name that this end gives under a number
pub given_short : (g : Setting) (n : ℕ) → length g.tag ≤ 32 → n < 2 ^ 64 → length (prefix g ++ decimal n) ≤ 53
given_short g n short few = let digits = length-decimal-le 20 n (omega arith) (omega arith) few in let all = length-append (prefix g) (decimal n) in
    let before = length-append g.tag (59 ∷ []) in omega arith

given_some : (g : Setting) (n : ℕ) → 1 ≤ length (prefix g ++ decimal n)
given_some g n = let all = length-append (prefix g) (decimal n) in let before = length-append g.tag (59 ∷ []) in omega arith

pub thread_named : (g : Setting) (root : ℕ) → length g.tag ≤ 32 → root < 2 ^ 64 → IsThread (root_tid g root)
unfolding root_tid
thread_named g root short few = let most = given_short g root short few in record { some = given_some g root; bounded = omega arith }

pub identity_named : (g : Setting) (n : ℕ) → length g.tag ≤ 32 → n < 2 ^ 64 → IsIdentity (own_oid g n)
unfolding own_oid
identity_named g n short few = let most = given_short g n short few in record { some = given_some g n; bounded = omega arith }

-- ---- bags and rows

fewer_less : {X : Type 0} (cmp : X → X → Ordering) (test : X → Bool) (k : X) (xs : List X) → how_many test (one_less cmp k xs) ≤ how_many test xs
fewer_less cmp test k [] = omega arith
fewer_less cmp test k (x ∷ xs) =
    let rest = fewer_less cmp test k xs in
    elim (eq_by_cmp cmp k x) as (λ b. how_many test (cond b xs (x ∷ one_less cmp k xs)) ≤ cond (test x) 1 0 + how_many test xs) [ true ↦ omega arith | false ↦ omega arith ]

module _ (g : Setting) (os : List Object) where
  held_more : (k : Hold) (hs : Holdings) → held_wrong g os (one_more hold_cmp k hs) ≡ one_if (is_wrong_pair g os k.pair) + held_wrong g os hs
  unfolding held_wrong
  held_more k hs = how_many_one_more hold_cmp (λ h. is_wrong_pair g os h.pair) k hs

  held_less : (k : Hold) (hs : Holdings) → held_wrong g os (one_less hold_cmp k hs) ≤ held_wrong g os hs
  unfolding held_wrong
  held_less k hs = fewer_less hold_cmp (λ h. is_wrong_pair g os h.pair) k hs

  held_kept : (keeps : Hold → Bool) (hs : Holdings) → held_wrong g os (filter keeps hs) ≤ held_wrong g os hs
  unfolding held_wrong
  held_kept keeps hs = fewer_kept (λ h. is_wrong_pair g os h.pair) keeps hs

  counted_by : (oid held written : List ℕ) (b : Bool) (stubs : Stubs)
      → sent_wrong g os (if b then sent_one (pair oid written) stubs else stubs) ≤ one_if (b && not (object_supports g oid written os)) + sent_wrong g os stubs
  unfolding sent_wrong
  counted_by oid held written true stubs =
      let more = more_put pair_cmp (is_unsupported g os) (pair oid written) (sent_again (stub (pair oid written) stubs)) stubs in omega arith
  counted_by oid held written false stubs = omega arith

  sent_more : (ns : List Naming) (stubs : Stubs) → sent_wrong g os (counts_sent ns stubs) ≤ total (unsupported g os) ns + sent_wrong g os stubs
  unfolding counts_sent total unsupported
  sent_more [] stubs = omega arith
  sent_more (n ∷ ns) stubs =
      let here = counted_by n.oid n.held n.written n.is_own stubs in let rest = sent_more ns (counts_one n stubs) in omega arith

  released_by : (p : Pair) (s : Stub) (b : Bool) (stubs : Stubs) → one_if (is_unsupported g os p) ≤ sent_wrong g os stubs → sent_wrong g os stubs ≡ 0
      → sent_wrong g os (cond b (without pair_cmp p stubs) (rows.put pair_cmp p (record s { released = s.released + 1 }) stubs)) ≡ 0
  unfolding sent_wrong
  released_by p s true stubs one none =
      let fewer = fewer_kept (λ row. is_unsupported g os row.0) (λ row. not (eq_by_cmp pair_cmp p row.0)) stubs in omega arith
  released_by p s false stubs one none =
      let more = more_put pair_cmp (is_unsupported g os) p (record s { released = s.released + 1 }) stubs in omega arith

  released_from_by : (p : Pair) (o : Option Stub) (stubs : Stubs) → stub p stubs ≡ o → sent_wrong g os stubs ≡ 0 → sent_wrong g os (released_from p o stubs) ≡ 0
  unfolding sent_wrong
  released_from_by p None stubs is none = none
  released_from_by p (Some s) stubs is none =
      released_by p s (is_last s) stubs (found_passes pair_cmp (is_unsupported g os) same_pair p s stubs is) none

  pub sent_less : (p : Pair) (stubs : Stubs) → sent_wrong g os stubs ≡ 0 → sent_wrong g os (released_one p stubs) ≡ 0
  sent_less p stubs none = released_from_by p (stub p stubs) stubs refl none

-- messages, and one more
pub sayable_more : (g : Setting) (ms : List Message) (m : Message) → AreRightlySaid g ms → IsRightlySaid g m → AreRightlySaid g (ms ++ m ∷ [])
sayable_more g [] m are is = (is, tt)
sayable_more g (n ∷ ms) m are is = (are.0, sayable_more g ms m are.1 is)

-- fine references are told by their identities
ref_told : (g : Setting) (os : List Object) (r : Ref) → wrong g os r ≡ 0 → is_told g r ≡ true
unfolding is_told
ref_told g os null none = refl
ref_told g os (own oid face) none = (own_fine g os oid face none).told
ref_told g os (peer oid face) none = ap not (peer_fine g os oid face none).told

refs_told : (g : Setting) (os : List Object) (rs : List Ref) → total (wrong g os) rs ≡ 0 → list_all (is_told g) rs ≡ true
unfolding total
refs_told g os [] none = refl
refs_told g os (r ∷ rs) none = and_from (is_told g r) (list_all (is_told g) rs) (ref_told g os r (omega arith)) (refs_told g os rs (omega arith))

-- what a message refers to counts no less than its values
values_most : (f : Ref → ℕ) (m : Message) → total f (message_refs m) ≤ total f (referred m)
unfolding total
values_most f (request tid oid face function args) = omega arith
values_most f (release tid oid face) = omega arith
values_most f (reply tid face function a) = omega arith

wrong_step : (own other : Bool) → one_if (not (own || other)) ≤ one_if (not own)
wrong_step true other = omega arith
wrong_step false true = omega arith
wrong_step false false = omega arith

wrong_other : (own other : Bool) → one_if (not (own || other)) ≤ one_if (not other)
wrong_other true other = omega arith
wrong_other false true = omega arith
wrong_other false false = omega arith

module _ (g : Setting) (given : IsGiven g) (os : List Object) (made : ℕ) where
  -- ---- saying

  pub says_fits : (m : Message) (t : Tables) → IsSayable g.registry m → total (wrong g os) (referred m) ≡ 0 → TablesFit g os made t → TablesFit g os made (says g m t)
  unfolding says
  says_fits m t sayable fine fit =
      let none = fit.sent in
      let named = message_named g given.sound os m sayable.may in
      let most = values_most (wrong g os) m in
      let more = sent_more g os (message_namings g.registry m) t.stubs in
      record { same = fit.same; counted = fit.counted; held = fit.held; sent = omega arith; sayable = sayable_more g t.unsaid m fit.sayable (record { sayable = sayable; told = refs_told g os (referred m) fine }) }

  release_light : (tid oid face : List ℕ) → IsThread tid → IsIdentity oid → IsInterface g.registry face → message_weight (release tid oid face) ≤ 16777216
  release_light tid oid face thread identity interface =
      let short = face_short g.registry face interface in let first = text_most face in let second = text_most oid in let third = text_most tid in
      let long = identity.bounded in let most = thread.bounded in omega arith

  release_sayable : (oid face : List ℕ) → IsIdentity oid → IsInterface g.registry face → IsSayable g.registry (release (release_tid g) oid face)
  release_sayable oid face identity interface =
      let thread = thread_named g 0 given.short (omega arith) in
      record { may = (interface, thread, identity); light = release_light (release_tid g) oid face thread identity interface }

  pub releases_fits : (oid face : List ℕ) (t : Tables) → wrong g os (peer oid face) ≡ 0 → TablesFit g os made t → TablesFit g os made (releases g oid face t)
  unfolding total
  releases_fits oid face t fine fit =
      let is = peer_fine g os oid face fine in
      says_fits (release (release_tid g) oid face) t (release_sayable oid face is.identity is.interface) (omega arith) fit

  -- ---- gaining

  own_pair : (oid face : List ℕ) → one_if (is_wrong_pair g os (pair oid face)) ≤ wrong g os (own oid face)
  unfolding wrong
  own_pair oid face = wrong_step (is_fine_own g os oid face) (is_fine_peer g oid face)

  peer_pair : (oid face : List ℕ) → one_if (is_wrong_pair g os (pair oid face)) ≤ wrong g os (peer oid face)
  unfolding wrong
  peer_pair oid face = wrong_other (is_fine_own g os oid face) (is_fine_peer g oid face)

  with_held : (h : Holdings) (t : Tables) → held_wrong g os h ≡ 0 → TablesFit g os made t → TablesFit g os made (record t { holdings = h })
  with_held h t none fit = record { same = fit.same; counted = fit.counted; held = none; sent = fit.sent; sayable = fit.sayable }

  pub gains_fits : (who : Holder) (r : Ref) (t : Tables) → wrong g os r ≡ 0 → TablesFit g os made t → TablesFit g os made (gains who r t)
  gains_fits who null t fine fit = fit
  gains_fits who (own oid face) t fine fit =
      let none = fit.held in let more = held_more g os (hold who (pair oid face)) t.holdings in let one = own_pair oid face in
      with_held (gains who (own oid face) t).holdings t (omega arith) fit
  gains_fits who (peer oid face) t fine fit =
      let none = fit.held in let more = held_more g os (hold who (pair oid face)) t.holdings in let one = peer_pair oid face in
      with_held (gains who (peer oid face) t).holdings t (omega arith) fit

  pub gains_all_fits : (who : Holder) (rs : List Ref) (t : Tables) → total (wrong g os) rs ≡ 0 → TablesFit g os made t → TablesFit g os made (gains_all who rs t)
  unfolding gains_all total
  gains_all_fits who [] t fine fit = fit
  gains_all_fits who (r ∷ rs) t fine fit = gains_all_fits who rs (gains who r t) (omega arith) (gains_fits who r t (omega arith) fit)

  -- ---- taking

  released_if : (b : Bool) (oid face : List ℕ) (t : Tables) → wrong g os (peer oid face) ≡ 0 → TablesFit g os made t
      → TablesFit g os made (if b then releases g oid face t else t)
  released_if true oid face t fine fit = releases_fits oid face t fine fit
  released_if false oid face t fine fit = fit

  takes_fits : (who : Holder) (r : Ref) (t : Tables) → wrong g os r ≡ 0 → TablesFit g os made t → TablesFit g os made (takes g who r t)
  takes_fits who null t fine fit = fit
  takes_fits who (own oid face) t fine fit = gains_fits who (own oid face) t fine fit
  takes_fits who (peer oid face) t fine fit =
      gains_fits who (peer oid face) (if is_held oid face t then releases g oid face t else t) fine (released_if (is_held oid face t) oid face t fine fit)

  pub takes_all_fits : (who : Holder) (rs : List Ref) (t : Tables) → total (wrong g os) rs ≡ 0 → TablesFit g os made t → TablesFit g os made (takes_all g who rs t)
  unfolding takes_all total
  takes_all_fits who [] t fine fit = fit
  takes_all_fits who (r ∷ rs) t fine fit = takes_all_fits who rs (takes g who r t) (omega arith) (takes_fits who r t (omega arith) fit)

  -- ---- letting go

  pub loses_fits : (who : Holder) (r : Ref) (t : Tables) → TablesFit g os made t → TablesFit g os made (loses who r t)
  loses_fits who null t fit = fit
  loses_fits who (own oid face) t fit =
      let none = fit.held in let less = held_less g os (hold who (pair oid face)) t.holdings in with_held (loses who (own oid face) t).holdings t (omega arith) fit
  loses_fits who (peer oid face) t fit =
      let none = fit.held in let less = held_less g os (hold who (pair oid face)) t.holdings in with_held (loses who (peer oid face) t).holdings t (omega arith) fit

  pub loses_all_fits : (who : Holder) (rs : List Ref) (t : Tables) → TablesFit g os made t → TablesFit g os made (loses_all who rs t)
  unfolding loses_all
  loses_all_fits who [] t fit = fit
  loses_all_fits who (r ∷ rs) t fit = loses_all_fits who rs (loses who r t) (loses_fits who r t fit)

  kept_unless : (b : Bool) (oid face : List ℕ) (t : Tables) → wrong g os (peer oid face) ≡ 0 → TablesFit g os made t
      → TablesFit g os made (if b then t else releases g oid face t)
  kept_unless true oid face t fine fit = fit
  kept_unless false oid face t fine fit = releases_fits oid face t fine fit

  gives_back_fits : (r : Ref) (t : Tables) → wrong g os r ≡ 0 → TablesFit g os made t → TablesFit g os made (gives_back g r t)
  gives_back_fits null t fine fit = fit
  gives_back_fits (own oid face) t fine fit = fit
  gives_back_fits (peer oid face) t fine fit = kept_unless (stays g oid face t) oid face t fine fit

  let_go_if : (b : Bool) (gone t : Tables) → TablesFit g os made gone → TablesFit g os made t → TablesFit g os made (if b then gone else t)
  let_go_if true gone t after fit = after
  let_go_if false gone t after fit = fit

  pub lets_go_fits : (who : Holder) (r : Ref) (t : Tables) → wrong g os r ≡ 0 → TablesFit g os made t → TablesFit g os made (lets_go g who r t)
  lets_go_fits who r t fine fit =
      let_go_if (holds_ref who r t) (gives_back g r (loses who r t)) t (gives_back_fits r (loses who r t) fine (loses_fits who r t fit)) fit

  pub lets_go_all_fits : (who : Holder) (rs : List Ref) (t : Tables) → total (wrong g os) rs ≡ 0 → TablesFit g os made t → TablesFit g os made (lets_go_all g who rs t)
  unfolding lets_go_all total
  lets_go_all_fits who [] t fine fit = fit
  lets_go_all_fits who (r ∷ rs) t fine fit = lets_go_all_fits who rs (lets_go g who r t) (omega arith) (lets_go_fits who r t (omega arith) fit)

  -- ---- the end

  pub end_fits : (why : Cause) (t : Tables) → TablesFit g os made t → TablesFit g os made (tables_at_end why t)
  unfolding sent_wrong
  end_fits why t fit =
      let none = fit.held in let kept = held_kept g os outlasts t.holdings in
      record { same = fit.same; counted = fit.counted; held = omega arith; sent = refl; sayable = fit.sayable }
