-- An object that is reaped is named nowhere: what frames and objects have is held, and it is not; so all that fits still does.
use Rattle.std.proofs.Common.{◌≡◌, ◌≢◌, ℕ, ◌+◌, ◌≤◌, ◌==◌, eqb-true, Bool, true, false, cond, not, ◌&&◌, ◌||◌, if◌then◌else◌, List, [], ◌∷◌, filter, find, Option, None, Some, refl, sym, ap, ◌∙◌, arith}
use Rattle.std.specs.List.{AllByRecursion, list_any}
use Rattle.std.specs.Option.{option_map}
use Rattle.std.specs.Str.{bytes_eq}
use Rattle.std.proofs.lemmas.Slice.Eq.{bytes_eq-Decides}
use Rattle.uno_model.specs.Functions.{Function}
use Rattle.uno_model.specs.Values.{Ref, null, own, peer}
use Rattle.table_model.specs.Holdings.{Hold, Holdings}
use Rattle.table_model.specs.Stubs.{Stubs}
use Rattle.table_model.specs.declared.holder.Holder.{Holder}
use Rattle.table_model.specs.declared.holder.Holder.TheVariants as holder
use Rattle.plan_model.specs.Frames.{Body, Frame, base, body, outgoing, Stack}
use Rattle.plan_model.specs.Holdings.{refs_under}
use Rattle.plan_model.specs.Plans.{supports}
use Rattle.plan_typing.specs.Types.{Types}
use Rattle.bridge_laws.specs.Counting.{total, one_if}
use Rattle.bridge_laws.proofs.HandingLaws.{frames_have, body_has, body_parts, method_more, outgoing_more}
use Rattle.bridge_laws.proofs.LivingLaws.{AreHeld, told_lives}
use Rattle.bridge_laws.proofs.ObjectLaws.{objects_more}
use Rattle.bridge_laws.proofs.OccurrenceLaws.{times, objects_have}
use Rattle.bridge_laws.proofs.SideLaws.{stacks_have, stacks_more}
use Rattle.bridge_laws.proofs.StrayLaws.{is_stray, untold, strays, held_strays}
use Rattle.bridge_laws.proofs.Sums.{total_at_most, total_plus}
use Rattle.bridge_model.specs.Objects.{object_numbered, object_named, faces_at, object_supports, is_held_object, has_stub, without_object}
use Rattle.bridge_model.specs.References.{refs_of_values}
use Rattle.bridge_model.specs.Settings.{Setting, is_own, own_oid}
use Rattle.bridge_model.specs.Sides.{Object}
use Rattle.bridge_laws.proofs.Fine.{is_well, is_fine_own, is_fine_peer, wrong}
use Rattle.bridge_laws.proofs.FramesFit.{behaviour_at, BodyFits, FramesFit}
use Rattle.bridge_laws.proofs.ObjectsFit.{object_wrong}
use Rattle.bridge_laws.proofs.SideFits.{StackFits}
use Rattle.bridge_laws.proofs.TablesFit.{is_wrong_pair, held_wrong, is_unsupported, sent_wrong}

-- ---- what is found without it

turned : (x y : List ℕ) (b : Bool) → bytes_eq y x ≡ b → bytes_eq x y ≡ false → b ≡ false
turned x y true is other = let same : bytes_eq x y ≡ true = (bytes_eq-Decides x y).1 (sym ((bytes_eq-Decides y x).0 is)) in absurd (cc)
turned x y false is other = refl

find_step : {X : Type 0} (test keeps : X → Bool) (x : X) (kept xs : List X) (b : Bool) → keeps x ≡ b → (keeps x ≡ false → test x ≡ false) → find test kept ≡ find test xs
    → find test (if b then x ∷ kept else kept) ≡ cond (test x) (Some x) (find test xs)
find_step test keeps x kept xs true is other same = ap (cond (test x) (Some x)) same
find_step test keeps x kept xs false is other same = same ∙ sym (ap (λ c. cond c (Some x) (find test xs)) (other is))

-- what is looked for is found where all that passes is kept
find_kept : {X : Type 0} (test keeps : X → Bool) → ((x : X) → keeps x ≡ false → test x ≡ false) → (xs : List X) → find test (filter keeps xs) ≡ find test xs
find_kept test keeps other [] = refl
find_kept test keeps other (x ∷ xs) = find_step test keeps x (filter keeps xs) xs (keeps x) refl (other x) (find_kept test keeps other xs)

not_false : (b : Bool) → not b ≡ false → b ≡ true
not_false true is = refl
not_false false is = absurd (cc)

named_kept : (g : Setting) (n : ℕ) (oid : List ℕ) (os : List Object) → bytes_eq (own_oid g n) oid ≡ false → object_named g oid (without_object n os) ≡ object_named g oid os
unfolding object_named without_object
named_kept g n oid os other =
    find_kept (λ o. bytes_eq oid (own_oid g o.number)) (λ o. not (n == o.number))
    (λ o gone. ap (λ m. bytes_eq oid (own_oid g m)) (sym (eqb-true n o.number (not_false (n == o.number) gone))) ∙ turned (own_oid g n) oid (bytes_eq oid (own_oid g n)) refl other) os

pub numbered_kept : (n m : ℕ) (os : List Object) → n ≢ m → object_numbered m (without_object n os) ≡ object_numbered m os
unfolding object_numbered without_object
numbered_kept n m os apart =
    find_kept (λ o. m == o.number) (λ o. not (n == o.number))
    (λ o gone. by_test (m == o.number) refl (eqb-true n o.number (not_false (n == o.number) gone))) os
  where
    by_test : {k : ℕ} (b : Bool) → (m == k) ≡ b → n ≡ k → (m == k) ≡ false
    by_test {k} true is same = absurd (apart (same ∙ sym (eqb-true m k is)))
    by_test false is same = is

-- ---- references

-- all live but that of one name
abbrev pub but : List ℕ → List ℕ → Bool
but gone oid = not (bytes_eq gone oid)

module _ (g : Setting) (os : List Object) (n : ℕ) where
  abbrev gone : List ℕ
  gone = own_oid g n

  abbrev now : List Object
  now = without_object n os

  own_step : (ours well before after same : Bool) → (same ≡ false → after ≡ before)
      → one_if (not (ours && (well && after))) ≤ one_if (not (ours && (well && before))) + (one_if (not ours) + one_if (ours && not (not same)))
  own_step ours well before after false kept = let is = kept refl in rw is (omega arith)
  own_step true well before after true kept = most_one (not (true && (well && after)))
    where
      most_one : (b : Bool) → one_if b ≤ one_if (not (true && (well && before))) + (0 + 1)
      most_one true = omega arith
      most_one false = omega arith
  own_step false well before after true kept = omega arith

  supports_kept : (oid face : List ℕ) → bytes_eq gone oid ≡ false → object_supports g oid face now ≡ object_supports g oid face os
  unfolding object_supports
  supports_kept oid face other = ap (λ o. supports g.registry (faces_at g o) face) (named_kept g n oid os other)

  ref_step : (r : Ref) → wrong g now r ≤ wrong g os r + strays g (but gone) r
  unfolding wrong strays is_stray is_fine_own
  ref_step null = omega arith
  ref_step (own oid face) =
      own_step (is_own g oid) (is_well g.registry oid face) (object_supports g oid face os) (object_supports g oid face now) (bytes_eq gone oid) (supports_kept oid face)
  ref_step (peer oid face) = omega arith

  untold_step : (ours well : Bool) → one_if (not ours) ≤ one_if (not (ours && well))
  untold_step true well = omega arith
  untold_step false well = omega arith

  peer_step : (ours well : Bool) → one_if ours ≤ one_if (not (not ours && well))
  peer_step true well = omega arith
  peer_step false well = omega arith

  untold_most : (r : Ref) → untold g r ≤ wrong g os r
  unfolding wrong untold is_fine_own is_fine_peer
  untold_most null = omega arith
  untold_most (own oid face) = untold_step (is_own g oid) _
  untold_most (peer oid face) = peer_step (is_own g oid) _

  -- references that are held, where it is not
  pub refs_stay : (who : Holder) (rs : List Ref) (hs : Holdings) → held_strays g (but gone) hs ≡ 0 → AreHeld who rs hs → total (wrong g os) rs ≡ 0 → total (wrong g now) rs ≡ 0
  refs_stay who rs hs none held fine =
      let told = total_at_most (untold g) (wrong g os) untold_most rs in
      let live = told_lives g (but gone) who rs hs none held in
      let both = total_at_most (wrong g now) (λ r. wrong g os r + strays g (but gone) r) ref_step rs in
      let sum = total_plus (wrong g os) (strays g (but gone)) rs in omega arith

  itself_step : (ours same : Bool) → one_if (not ours) + one_if (ours && not (not same)) ≡ 0 → same ≡ false
  itself_step true true none = absurd (omega arith)
  itself_step true false none = refl
  itself_step false same none = absurd (omega arith)

  -- an own object that is held is another one
  another : (who : Holder) (oid face : List ℕ) (hs : Holdings) → held_strays g (but gone) hs ≡ 0 → AreHeld who (own oid face ∷ []) hs → wrong g os (own oid face) ≡ 0
      → bytes_eq gone oid ≡ false
  unfolding total strays is_stray
  another who oid face hs none held fine =
      let told = total_at_most (untold g) (wrong g os) untold_most (own oid face ∷ []) in
      let live = told_lives g (but gone) who (own oid face ∷ []) hs none held in
      itself_step (is_own g oid) (bytes_eq gone oid) (omega arith)

  -- ---- holdings and stubs

  not_both : (a b : Bool) → (a || b) ≡ false → (a ≡ false) × (b ≡ false)
  not_both true b is = absurd (cc)
  not_both false b is = (refl, is)

  stray_none : (ours same : Bool) → same ≡ false → one_if (ours && not (not same)) ≡ 0
  stray_none true true is = absurd (cc)
  stray_none true false is = refl
  stray_none false same is = refl

  unheld : (hs : Holdings) → is_held_object gone hs ≡ false → held_strays g (but gone) hs ≡ 0
  unfolding is_held_object held_strays is_stray
  unheld [] none = refl
  unheld (h ∷ hs) none =
      let both = not_both (bytes_eq gone h.pair.oid) (list_any (λ h. bytes_eq gone h.pair.oid) hs) none in
      let here = stray_none (is_own g h.pair.oid) (bytes_eq gone h.pair.oid) both.0 in let rest = unheld hs both.1 in omega arith

  pub held_stays : (hs : Holdings) → is_held_object gone hs ≡ false → held_wrong g now hs ≡ held_wrong g os hs
  unfolding is_held_object held_wrong is_fine_own
  held_stays [] none = refl
  held_stays (h ∷ hs) none =
      let both = not_both (bytes_eq gone h.pair.oid) (list_any (λ h. bytes_eq gone h.pair.oid) hs) none in
      let same = supports_kept h.pair.oid h.pair.face both.0 in
      let here : one_if (is_wrong_pair g now h.pair) ≡ one_if (is_wrong_pair g os h.pair) =
      ap (λ b. one_if (not ((is_own g h.pair.oid && (is_well g.registry h.pair.oid h.pair.face && b)) || is_fine_peer g h.pair.oid h.pair.face))) same in
      let rest = held_stays hs both.1 in omega arith

  pub sent_stays : (stubs : Stubs) → has_stub gone stubs ≡ false → sent_wrong g now stubs ≡ sent_wrong g os stubs
  unfolding has_stub sent_wrong
  sent_stays [] none = refl
  sent_stays (row ∷ stubs) none =
      let both = not_both (bytes_eq gone row.0.oid) (list_any (λ row. bytes_eq gone row.0.oid) stubs) none in
      let same = supports_kept row.0.oid row.0.face both.0 in
      let here : one_if (is_unsupported g now row.0) ≡ one_if (is_unsupported g os row.0) = ap (λ b. one_if (not b)) same in
      let rest = sent_stays stubs both.1 in omega arith

  -- ---- frames

  module _ (hs : Holdings) (none : is_held_object gone hs ≡ false) where
    body_stays : (b : Body) (k : ℕ) (f : Function) (ts : Types) → ((h : Hold) → body_has g h b ≤ times h hs) → BodyFits g os b k f ts → BodyFits g now b k f ts
    unfolding behaviour_at total
    body_stays b k f ts held fits =
        let nothing = unheld hs none in
        let variables = refs_stay (holder.Frame b.number) (refs_under b.variables) hs nothing (λ h. let parts = body_parts g h b in let all = held h in omega arith) fits.fine in
        let one = refs_stay (holder.Frame b.number) (own (own_oid g b.object) b.face ∷ []) hs nothing (λ h. let parts = body_parts g h b in let all = held h in omega arith)
        (let fine = fits.held in omega arith) in
        let other = another (holder.Frame b.number) (own_oid g b.object) b.face hs nothing (λ h. let parts = body_parts g h b in let all = held h in omega arith) fits.held in
        record {
          called = fits.called;
          found = ap (option_map (λ o. o.behaviour)) (numbered_kept n b.object os (λ same. not_it b.object same other)) ∙ fits.found;
          fields = fits.fields;
          itself = fits.itself;
          stand = fits.stand;
          variables = fits.variables;
          fine = variables;
          held = omega arith;
        }
      where
        not_it : (m : ℕ) → n ≡ m → bytes_eq gone (own_oid g m) ≡ false → ⊥
        not_it m same other = let alike : bytes_eq gone (own_oid g m) ≡ true = (bytes_eq-Decides gone (own_oid g m)).1 (ap (own_oid g) same) in absurd (cc)

    frames_stay : (asked : Option Function) (fs : List Frame) → ((h : Hold) → frames_have g h fs ≤ times h hs) → FramesFit g os asked fs → FramesFit g now asked fs
    unfolding FramesFit
    frames_stay asked [] held fit = tt
    frames_stay asked (base root ∷ fs) held fit = tt
    frames_stay asked (outgoing o ∷ fs) held fit =
        (fit.0, fit.1, frames_stay (Some fit.0) fs (λ h. let parts = outgoing_more g h o fs in let all = held h in omega arith) fit.2)
    frames_stay None (body b ∷ fs) held fit =
        let r = fit.0 in (
          record {
            behaviour = r.behaviour;
            function = r.function;
            types = r.types;
            fits = body_stays b r.behaviour r.function r.types (λ h. let parts = method_more g h b fs in let all = held h in omega arith) r.fits;
            rest = r.rest;
            begun = r.begun;
          },
          fit.1,
          frames_stay (Some r.function) fs (λ h. let parts = method_more g h b fs in let all = held h in omega arith) fit.2,
        )
    frames_stay (Some f) (body b ∷ fs) held fit =
        let r = fit.0 in (
          record {
            behaviour = r.behaviour;
            function = r.function;
            types = r.types;
            statement = r.statement;
            fits = body_stays b r.behaviour r.function r.types (λ h. let parts = method_more g h b fs in let all = held h in omega arith) r.fits;
            found = r.found;
            typed = r.typed;
            rest = r.rest;
            takes = r.takes;
          },
          fit.1,
          frames_stay (Some r.function) fs (λ h. let parts = method_more g h b fs in let all = held h in omega arith) fit.2,
        )

    pub stacks_stay : (ss : List Stack) → ((h : Hold) → stacks_have g h ss ≤ times h hs) → AllByRecursion (StackFits g os) ss → AllByRecursion (StackFits g now) ss
    stacks_stay [] held all = tt
    stacks_stay (s ∷ ss) held all = (
      record {
        thread = all.0.thread;
        frames = frames_stay None s.frames (λ h. let parts = stacks_more g h s ss in let most = held h in omega arith) all.0.frames;
      },
      stacks_stay ss (λ h. let parts = stacks_more g h s ss in let most = held h in omega arith) all.1,
    )

    -- ---- objects

    pub objects_stay : (xs : List Object) → ((h : Hold) → objects_have h xs ≤ times h hs) → total (object_wrong g os) xs ≡ 0 → total (object_wrong g now) xs ≡ 0
    unfolding total object_wrong
    objects_stay [] held fine = refl
    objects_stay (o ∷ xs) held fine =
        let here = refs_stay (holder.Object o.number) (refs_of_values o.fields) hs (unheld hs none) (λ h. let parts = objects_more h o xs in let all = held h in omega arith) (omega arith) in
        let rest = objects_stay xs (λ h. let parts = objects_more h o xs in let all = held h in omega arith) (omega arith) in omega arith
