-- What fits still fits where objects keep their behaviours and support what they supported.
use Rattle.std.proofs.Common.{◌≡◌, ℕ, ◌≤◌, Bool, true, false, not, ◌&&◌, ◌||◌, List, [], ◌∷◌, Option, None, Some, refl, sym, ◌∙◌, arith}
use Rattle.uno_model.specs.Functions.{Function}
use Rattle.uno_model.specs.Values.{Ref, null, own, peer}
use Rattle.table_model.specs.Bags.{how_many}
use Rattle.table_model.specs.Holdings.{Holdings}
use Rattle.table_model.specs.Stubs.{Stubs}
use Rattle.plan_model.specs.Frames.{Body, Frame, base, body, outgoing}
use Rattle.plan_model.specs.Holdings.{refs_under}
use Rattle.plan_typing.specs.Types.{Types}
use Rattle.bridge_laws.specs.Counting.{total, one_if}
use Rattle.bridge_laws.proofs.Sums.{total_at_most}
use Rattle.bridge_model.specs.Objects.{object_supports}
use Rattle.bridge_model.specs.Settings.{Setting, is_own, own_oid}
use Rattle.bridge_model.specs.Sides.{Object, Tables}
use Rattle.bridge_laws.proofs.Fine.{is_well, is_fine_own, is_fine_peer, wrong}
use Rattle.bridge_laws.proofs.FramesFit.{BodyFits, FramesFit}
use Rattle.bridge_laws.proofs.ObjectsFit.{Lasts, object_wrong}
use Rattle.bridge_laws.proofs.TablesFit.{is_wrong_pair, held_wrong, is_unsupported, sent_wrong, TablesFit}

fewer_by : (a b : Bool) → (a ≡ true → b ≡ true) → one_if (not b) ≤ one_if (not a)
fewer_by true b more = let is = more refl in rw is (omega arith)
fewer_by false true more = omega arith
fewer_by false false more = omega arith

both_more : (a b c d : Bool) → (c ≡ true → d ≡ true) → (a && (b && c)) ≡ true → (a && (b && d)) ≡ true
both_more true true c d more is = more is
both_more true false c d more is = is
both_more false b c d more is = is

or_more : (a b c : Bool) → (a ≡ true → b ≡ true) → (a || c) ≡ true → (b || c) ≡ true
or_more true b c more is = let one = more refl in rw one refl
or_more false true c more is = refl
or_more false false c more is = is

fewer_many : {X : Type 0} (before now : X → Bool) → ((x : X) → one_if (now x) ≤ one_if (before x)) → (xs : List X) → how_many now xs ≤ how_many before xs
fewer_many before now fewer [] = omega arith
fewer_many before now fewer (x ∷ xs) = let here = fewer x in let rest = fewer_many before now fewer xs in omega arith

module _ (g : Setting) (os now : List Object) (lasts : Lasts g os now) where
  fine_stays : (oid face : List ℕ) → is_fine_own g os oid face ≡ true → is_fine_own g now oid face ≡ true
  unfolding is_fine_own
  fine_stays oid face is =
      both_more (is_own g oid) (is_well g.registry oid face) (object_supports g oid face os) (object_supports g oid face now) (lasts.supported oid face) is

  fewer_wrong : (r : Ref) → wrong g now r ≤ wrong g os r
  unfolding wrong
  fewer_wrong null = omega arith
  fewer_wrong (own oid face) = fewer_by (is_fine_own g os oid face) (is_fine_own g now oid face) (fine_stays oid face)
  fewer_wrong (peer oid face) = omega arith

  pub refs_last : (rs : List Ref) → total (wrong g os) rs ≡ 0 → total (wrong g now) rs ≡ 0
  refs_last rs none = let fewer = total_at_most (wrong g now) (wrong g os) fewer_wrong rs in omega arith

  pub ref_lasts : (r : Ref) → wrong g os r ≡ 0 → wrong g now r ≡ 0
  ref_lasts r none = let fewer = fewer_wrong r in omega arith

  pub objects_last : (xs : List Object) → total (object_wrong g os) xs ≡ 0 → total (object_wrong g now) xs ≡ 0
  unfolding object_wrong
  objects_last xs none =
      let fewer = total_at_most (object_wrong g now) (object_wrong g os) (λ o. total_at_most (wrong g now) (wrong g os) fewer_wrong _) xs in omega arith

  held_lasts : (hs : Holdings) → held_wrong g os hs ≡ 0 → held_wrong g now hs ≡ 0
  unfolding held_wrong
  held_lasts hs none =
      let fewer = fewer_many (λ h. is_wrong_pair g os h.pair) (λ h. is_wrong_pair g now h.pair)
      (λ h. fewer_by (is_fine_own g os h.pair.oid h.pair.face || is_fine_peer g h.pair.oid h.pair.face) (is_fine_own g now h.pair.oid h.pair.face || is_fine_peer g h.pair.oid h.pair.face)
      (or_more (is_fine_own g os h.pair.oid h.pair.face) (is_fine_own g now h.pair.oid h.pair.face) (is_fine_peer g h.pair.oid h.pair.face) (fine_stays h.pair.oid h.pair.face))) hs in
      omega arith

  sent_lasts : (stubs : Stubs) → sent_wrong g os stubs ≡ 0 → sent_wrong g now stubs ≡ 0
  unfolding sent_wrong
  sent_lasts stubs none =
      let fewer = fewer_many (λ row. is_unsupported g os row.0) (λ row. is_unsupported g now row.0)
      (λ row. fewer_by (object_supports g row.0.oid row.0.face os) (object_supports g row.0.oid row.0.face now) (lasts.supported row.0.oid row.0.face)) stubs in
      omega arith

  pub body_lasts : (b : Body) (n : ℕ) (f : Function) (ts : Types) → BodyFits g os b n f ts → BodyFits g now b n f ts
  body_lasts b n f ts fits =
      record {
        called = fits.called;
        found = lasts.behaves b.object n fits.found;
        fields = fits.fields;
        itself = fits.itself;
        stand = fits.stand;
        variables = fits.variables;
        fine = refs_last (refs_under b.variables) fits.fine;
        held = ref_lasts (own (own_oid g b.object) b.face) fits.held;
      }

  pub frames_last : (asked : Option Function) (fs : List Frame) → FramesFit g os asked fs → FramesFit g now asked fs
  unfolding FramesFit
  frames_last asked [] fit = tt
  frames_last asked (base root ∷ fs) fit = tt
  frames_last asked (outgoing o ∷ fs) fit = (fit.0, fit.1, frames_last (Some fit.0) fs fit.2)
  frames_last None (body b ∷ fs) fit =
      let r = fit.0 in (
        record {
          behaviour = r.behaviour;
          function = r.function;
          types = r.types;
          fits = body_lasts b r.behaviour r.function r.types r.fits;
          rest = r.rest;
          begun = r.begun;
        },
        fit.1,
        frames_last (Some r.function) fs fit.2,
      )
  frames_last (Some f) (body b ∷ fs) fit =
      let r = fit.0 in (
        record {
          behaviour = r.behaviour;
          function = r.function;
          types = r.types;
          statement = r.statement;
          fits = body_lasts b r.behaviour r.function r.types r.fits;
          found = r.found;
          typed = r.typed;
          rest = r.rest;
          takes = r.takes;
        },
        fit.1,
        frames_last (Some r.function) fs fit.2,
      )

  -- with the objects that are there now
  pub tables_last : (made count : ℕ) (t : Tables) → count ≡ made → TablesFit g os made t → TablesFit g now count (record t { objects = now })
  tables_last made count t same fit =
      record {
        same = refl;
        counted = fit.counted ∙ sym same;
        held = held_lasts t.holdings fit.held;
        sent = sent_lasts t.stubs fit.sent;
        sayable = fit.sayable;
      }

  pub tables_more : (count : ℕ) (made : ℕ) (t : Tables) → TablesFit g os made t → TablesFit g now count (record t { objects = now; objects_made = count })
  tables_more count made t fit =
      record { same = refl; counted = refl; held = held_lasts t.holdings fit.held; sent = sent_lasts t.stubs fit.sent; sayable = fit.sayable }
