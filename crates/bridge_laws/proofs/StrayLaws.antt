-- References that name an object of this end which does not live, and how many of them holdings and stubs have.
use Rattle.std.proofs.Common.{◌≡◌, ℕ, ◌+◌, ◌≤◌, Bool, true, false, cond, not, ◌&&◌, ◌||◌, if◌then◌else◌, List, [], ◌∷◌, filter, Option, None, Some, Less, Equal, Greater, refl, ap, arith}
use Rattle.std.proofs.lemmas.Slice.Eq.{bytes_eq-Decides}
use Rattle.std.specs.Cmp.{Equal-is}
use Rattle.std.specs.FinMap as rows
use Rattle.std.specs.FinMap.{IsAntisymmetric}
use Rattle.std.specs.FinMap.Entries.{by_order}
use Rattle.std.specs.List.{list_any}
use Rattle.std.specs.Ordering.{eq_by_cmp}
use Rattle.std.specs.Str.{bytes_eq}
use Rattle.std.specs.declared.cmp.Ordering.{Ordering}
use Rattle.uno_model.specs.Values.{Ref, null, own, peer}
use Rattle.urp_model.specs.Namings.{Naming}
use Rattle.table_model.specs.Bags.{how_many, one_more, one_less}
use Rattle.table_model.specs.Holdings.{Hold, hold_cmp, Holdings}
use Rattle.table_model.specs.Pair.{Pair, pair, pair_cmp}
use Rattle.table_model.specs.Rows.{without}
use Rattle.table_model.specs.Stubs.{Stubs, stub, sent_again, sent_one, is_last, released_from, released_one}
use Rattle.table_model.specs.declared.stub.Stub.{Stub}
use Rattle.table_model.proofs.BagLaws.{how_many_one_more}
use Rattle.table_model.proofs.PairLaws.{same_pair}
use Rattle.bridge_model.specs.Objects.{is_held_object, has_stub}
use Rattle.bridge_model.specs.References.{counts_one, counts_sent}
use Rattle.bridge_model.specs.Settings.{Setting, is_own}
use Rattle.bridge_laws.specs.Counting.{total, one_if}
use Rattle.bridge_laws.proofs.NamingLaws.{namings_count}
use Rattle.bridge_laws.proofs.Sums.{total_at_most}

-- ---- words

-- whether an identity that this end gave is not that of an object that lives
unfoldable pub is_stray : Setting → (List ℕ → Bool) → List ℕ → Bool
is_stray g live oid = is_own g oid && not (live oid)

-- a reference that is told wrongly as one of this end, or as one of the peer's
unfoldable pub untold : Setting → Ref → ℕ
untold g null = 0
untold g (own oid face) = one_if (not (is_own g oid))
untold g (peer oid face) = one_if (is_own g oid)

-- or that names nothing that lives
unfoldable pub strays : Setting → (List ℕ → Bool) → Ref → ℕ
strays g live null = 0
strays g live (own oid face) = one_if (not (is_own g oid)) + one_if (is_stray g live oid)
strays g live (peer oid face) = one_if (is_own g oid)

unfoldable pub held_strays : Setting → (List ℕ → Bool) → Holdings → ℕ
held_strays g live hs = how_many (λ k. is_stray g live k.pair.oid) hs

unfoldable pub stub_strays : Setting → (List ℕ → Bool) → Stubs → ℕ
stub_strays g live stubs = how_many (λ row. is_stray g live row.0.oid) stubs

-- ---- references

untold_most : (g : Setting) (live : List ℕ → Bool) (r : Ref) → untold g r ≤ strays g live r
unfolding untold strays
untold_most g live null = omega arith
untold_most g live (own oid face) = omega arith
untold_most g live (peer oid face) = omega arith

pub told_unless_stray : (g : Setting) (live : List ℕ → Bool) (rs : List Ref) → total (untold g) rs ≤ total (strays g live) rs
told_unless_stray g live rs = total_at_most (untold g) (strays g live) (untold_most g live) rs

both_tests : (a b : Bool) → one_if (a && not b) ≤ one_if a
both_tests true true = omega arith
both_tests true false = omega arith
both_tests false b = omega arith

-- a pair that is held for a reference is no more stray than that
pub own_stray : (g : Setting) (live : List ℕ → Bool) (oid face : List ℕ) → one_if (is_stray g live oid) ≤ strays g live (own oid face)
unfolding strays
own_stray g live oid face = omega arith

pub peer_stray : (g : Setting) (live : List ℕ → Bool) (oid face : List ℕ) → one_if (is_stray g live oid) ≤ strays g live (peer oid face)
unfolding strays is_stray
peer_stray g live oid face = both_tests (is_own g oid) (live oid)

-- ---- more that lives

-- all that lived still lives
abbrev pub Lasts : (live now : List ℕ → Bool) → Type 0
Lasts live now = (oid : List ℕ) → live oid ≡ true → now oid ≡ true

lasting_step : (a b c : Bool) → (b ≡ true → c ≡ true) → one_if (a && not c) ≤ one_if (a && not b)
lasting_step false b c more = omega arith
lasting_step true b true more = let most = both_tests true b in omega arith
lasting_step true false false more = omega arith
lasting_step true true false more = let bad : false ≡ true = more refl in absurd (cc)

pub fewer_stray : (g : Setting) (live now : List ℕ → Bool) → Lasts live now → (oid : List ℕ) → one_if (is_stray g now oid) ≤ one_if (is_stray g live oid)
unfolding is_stray
fewer_stray g live now lasts oid = lasting_step (is_own g oid) (live oid) (now oid) (lasts oid)

fewer_stray_ref : (g : Setting) (live now : List ℕ → Bool) → Lasts live now → (r : Ref) → strays g now r ≤ strays g live r
unfolding strays
fewer_stray_ref g live now lasts null = omega arith
fewer_stray_ref g live now lasts (own oid face) = let fewer = fewer_stray g live now lasts oid in omega arith
fewer_stray_ref g live now lasts (peer oid face) = omega arith

pub fewer_strays : (g : Setting) (live now : List ℕ → Bool) → Lasts live now → (rs : List Ref) → total (strays g now) rs ≤ total (strays g live) rs
fewer_strays g live now lasts rs = total_at_most (strays g now) (strays g live) (fewer_stray_ref g live now lasts) rs

fewer_many : {X : Type 0} (name : X → List ℕ) (g : Setting) (live now : List ℕ → Bool) → Lasts live now → (xs : List X)
    → how_many (λ x. is_stray g now (name x)) xs ≤ how_many (λ x. is_stray g live (name x)) xs
fewer_many name g live now lasts [] = omega arith
fewer_many name g live now lasts (x ∷ xs) = let here = fewer_stray g live now lasts (name x) in let rest = fewer_many name g live now lasts xs in omega arith

pub fewer_held : (g : Setting) (live now : List ℕ → Bool) → Lasts live now → (hs : Holdings) → held_strays g now hs ≤ held_strays g live hs
unfolding held_strays
fewer_held g live now lasts hs = fewer_many (λ k. k.pair.oid) g live now lasts hs

pub fewer_sent : (g : Setting) (live now : List ℕ → Bool) → Lasts live now → (stubs : Stubs) → stub_strays g now stubs ≤ stub_strays g live stubs
unfolding stub_strays
fewer_sent g live now lasts stubs = fewer_many (λ row. row.0.oid) g live now lasts stubs

-- ---- what lives is found

stray_named : (own live : Bool) → own ≡ true → one_if (own && not live) ≡ 0 → live ≡ true
stray_named true true is none = refl
stray_named true false is none = absurd (omega arith)
stray_named false live is none = absurd (cc)

any_step : {X : Type 0} (name : X → List ℕ) (g : Setting) (live : List ℕ → Bool) (oid : List ℕ) (x : X) (rest : ℕ) (b any : Bool) → bytes_eq oid (name x) ≡ b → is_own g oid ≡ true
    → (any ≡ true → rest ≡ 0 → live oid ≡ true) → (b || any) ≡ true → one_if (is_stray g live (name x)) + rest ≡ 0 → live oid ≡ true
unfolding is_stray
any_step name g live oid x rest true any is given more found none =
    let same : oid ≡ name x = (bytes_eq-Decides oid (name x)).0 is in
    let stray : one_if (is_own g oid && not (live oid)) ≡ one_if (is_own g (name x) && not (live (name x))) = ap (λ n. one_if (is_own g n && not (live n))) same in
    stray_named (is_own g oid) (live oid) given (omega arith)
any_step name g live oid x rest false any is given more found none = more found (omega arith)

any_lives : {X : Type 0} (name : X → List ℕ) (g : Setting) (live : List ℕ → Bool) (oid : List ℕ) (xs : List X) → is_own g oid ≡ true → list_any (λ x. bytes_eq oid (name x)) xs ≡ true
    → how_many (λ x. is_stray g live (name x)) xs ≡ 0 → live oid ≡ true
any_lives name g live oid [] given found none = absurd (cc)
any_lives name g live oid (x ∷ xs) given found none =
    any_step name g live oid x (how_many (λ x. is_stray g live (name x)) xs) (bytes_eq oid (name x)) (list_any (λ x. bytes_eq oid (name x)) xs) refl given
    (λ there rest. any_lives name g live oid xs given there rest) found none

pub held_lives : (g : Setting) (live : List ℕ → Bool) (oid : List ℕ) (hs : Holdings) → is_own g oid ≡ true → is_held_object oid hs ≡ true
    → held_strays g live hs ≡ 0 → live oid ≡ true
unfolding held_strays is_held_object
held_lives g live oid hs given found none = any_lives (λ k. k.pair.oid) g live oid hs given found none

pub sent_lives : (g : Setting) (live : List ℕ → Bool) (oid : List ℕ) (stubs : Stubs) → is_own g oid ≡ true → has_stub oid stubs ≡ true
    → stub_strays g live stubs ≡ 0 → live oid ≡ true
unfolding stub_strays has_stub
sent_lives g live oid stubs given found none = any_lives (λ row. row.0.oid) g live oid stubs given found none

-- ---- bags and rows

fewer_less : {X : Type 0} (cmp : X → X → Ordering) (test : X → Bool) (k : X) (xs : List X) → how_many test (one_less cmp k xs) ≤ how_many test xs
fewer_less cmp test k [] = omega arith
fewer_less cmp test k (x ∷ xs) =
    let rest = fewer_less cmp test k xs in
    elim (eq_by_cmp cmp k x) as (λ b. how_many test (cond b xs (x ∷ one_less cmp k xs)) ≤ cond (test x) 1 0 + how_many test xs) [ true ↦ omega arith | false ↦ omega arith ]

pub fewer_kept : {X : Type 0} (test keeps : X → Bool) (xs : List X) → how_many test (filter keeps xs) ≤ how_many test xs
fewer_kept test keeps [] = omega arith
fewer_kept test keeps (x ∷ xs) =
    let rest = fewer_kept test keeps xs in
    elim (keeps x) as (λ b. how_many test (cond b (x ∷ filter keeps xs) (filter keeps xs)) ≤ cond (test x) 1 0 + how_many test xs) [ true ↦ omega arith | false ↦ omega arith ]

module _ {K V : Type 0} (cmp : K → K → Ordering) (test : K → Bool) where
  -- how many keys of rows pass a test
  abbrev pub keys_pass : List (K × V) → ℕ
  keys_pass xs = how_many (λ row. test row.0) xs

  pub more_put : (k : K) (x : V) (xs : List (K × V)) → keys_pass (rows.put cmp k x xs) ≤ cond (test k) 1 0 + keys_pass xs
  more_put k x [] = omega arith
  more_put k x (row ∷ xs) =
      let rest = more_put k x xs in
      elim (cmp k row.0) as (λ o. keys_pass (by_order o ((k, x) ∷ row ∷ xs) ((row.0, x) ∷ xs) (row ∷ rows.put cmp k x xs)) ≤ cond (test k) 1 0 + (cond (test row.0) 1 0 + keys_pass xs)) [ Less ↦ omega arith | Equal ↦ omega arith | Greater ↦ omega arith ]

  pub found_passes : IsAntisymmetric cmp → (k : K) (x : V) (xs : List (K × V)) → rows.find cmp k xs ≡ Some x → cond (test k) 1 0 ≤ keys_pass xs
  found_passes same k x [] is = absurd (cc)
  found_passes same k x (row ∷ xs) is =
      elim (eq_by_cmp cmp k row.0) as (λ b. eq_by_cmp cmp k row.0 ≡ b → cond b (Some row.1) (rows.find cmp k xs) ≡ Some x → cond (test k) 1 0 ≤ cond (test row.0) 1 0 + keys_pass xs) [
        | true ↦ λ one _. let alike : ◌≡◌ {A = ℕ} (cond (test k) 1 0) (cond (test row.0) 1 0) = ap (λ q. cond (test q) 1 0) (same k row.0 ((Equal-is _).0 one)) in omega arith
        | false ↦ λ _ there. let rest = found_passes same k x xs there in omega arith
      ] refl is

-- ---- holdings and stubs

pub held_more : (g : Setting) (live : List ℕ → Bool) (k : Hold) (hs : Holdings) → held_strays g live (one_more hold_cmp k hs) ≡ one_if (is_stray g live k.pair.oid) + held_strays g live hs
unfolding held_strays
held_more g live k hs = how_many_one_more hold_cmp (λ k. is_stray g live k.pair.oid) k hs

pub held_less : (g : Setting) (live : List ℕ → Bool) (k : Hold) (hs : Holdings) → held_strays g live (one_less hold_cmp k hs) ≤ held_strays g live hs
unfolding held_strays
held_less g live k hs = fewer_less hold_cmp (λ k. is_stray g live k.pair.oid) k hs

pub held_kept : (g : Setting) (live : List ℕ → Bool) (keeps : Hold → Bool) (hs : Holdings) → held_strays g live (filter keeps hs) ≤ held_strays g live hs
unfolding held_strays
held_kept g live keeps hs = fewer_kept (λ k. is_stray g live k.pair.oid) keeps hs

counted_by : (g : Setting) (live : List ℕ → Bool) (oid held written : List ℕ) (b : Bool) (stubs : Stubs)
    → stub_strays g live (if b then sent_one (pair oid written) stubs else stubs) ≤ strays g live (if b then own oid held else peer oid held) + stub_strays g live stubs
unfolding stub_strays
counted_by g live oid held written true stubs =
    let more = more_put pair_cmp (λ p. is_stray g live p.oid) (pair oid written) (sent_again (stub (pair oid written) stubs)) stubs in
    let one = own_stray g live oid held in omega arith
counted_by g live oid held written false stubs = omega arith

pub sent_more : (g : Setting) (live : List ℕ → Bool) (ns : List Naming) (stubs : Stubs) → stub_strays g live (counts_sent ns stubs) ≤ namings_count (strays g live) ns + stub_strays g live stubs
unfolding counts_sent total
sent_more g live [] stubs = omega arith
sent_more g live (n ∷ ns) stubs =
    let here = counted_by g live n.oid n.held n.written n.is_own stubs in let rest = sent_more g live ns (counts_one n stubs) in omega arith

released_by : (g : Setting) (live : List ℕ → Bool) (p : Pair) (s : Stub) (b : Bool) (stubs : Stubs) → one_if (is_stray g live p.oid) ≤ stub_strays g live stubs → stub_strays g live stubs ≡ 0
    → stub_strays g live (cond b (without pair_cmp p stubs) (rows.put pair_cmp p (record s { released = s.released + 1 }) stubs)) ≡ 0
unfolding stub_strays
released_by g live p s true stubs one none =
    let fewer = fewer_kept (λ row. is_stray g live row.0.oid) (λ row. not (eq_by_cmp pair_cmp p row.0)) stubs in omega arith
released_by g live p s false stubs one none =
    let more = more_put pair_cmp (λ q. is_stray g live q.oid) p (record s { released = s.released + 1 }) stubs in omega arith

released_from_by : (g : Setting) (live : List ℕ → Bool) (p : Pair) (o : Option Stub) (stubs : Stubs) → stub p stubs ≡ o → stub_strays g live stubs ≡ 0
    → stub_strays g live (released_from p o stubs) ≡ 0
unfolding stub_strays
released_from_by g live p None stubs is none = none
released_from_by g live p (Some s) stubs is none =
    released_by g live p s (is_last s) stubs (found_passes pair_cmp (λ q. is_stray g live q.oid) same_pair p s stubs is) none

pub sent_less : (g : Setting) (live : List ℕ → Bool) (p : Pair) (stubs : Stubs) → stub_strays g live stubs ≡ 0 → stub_strays g live (released_one p stubs) ≡ 0
sent_less g live p stubs none = released_from_by g live p (stub p stubs) stubs refl none
