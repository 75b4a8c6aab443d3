-- What is seen of both ends behind a call at one, by what it made of its endpoint, whose next entry was marked before.
use Rattle.std.proofs.Common.{◌≡◌, ◌≢◌, refl, sym, ap, ◌∙◌, subst, ℕ, ◌+◌, List, length, Option, None, Some, IfNone, IfSome, Result, Ok, Err, IfOk, OnErr, OnOk}
use Rattle.bridge_core.specs.declared.side.Side.{Side}
use Rattle.bridge_core.specs.declared.side.Side.TheVariants as code
use Rattle.bridge_endpoint.specs.Journals.{Endpoint, setting_at, side_at, stamped}
use Rattle.bridge_model.specs.Settings.{Setting}
use Rattle.bridge_model.specs.Sides as side
use Rattle.bridge_world.specs.Joined.{Grows, Joined, end_at, joined}
use Rattle.bridge_world.specs.Worlds.{IsWorld}
use Rattle.bridge_world.proofs.Called.{a_called, b_called}
use Rattle.bridge_world.proofs.Going.{Goes, end_a, end_b}
use Rattle.bridge_world.proofs.Unmarked.{same_side, unmark}

-- ---- before it

module _ (m x : Endpoint) (is : unmark m ≡ x) where
  -- what is true of the marked endpoint is true of the end that is seen
  pub is_seen : (P : Setting → side.Side → Type 0) → P (setting_at m) (side_at m) → P (setting_at x) (side_at x)
  is_seen P p = subst (λ (z : Endpoint). P (setting_at z) (side_at z)) is (subst (λ (s : side.Side). P (setting_at m) s) (sym (same_side m)) p)

  pub is_there : (P : Setting → side.Side → Type 0) → P (setting_at x) (side_at x) → P (setting_at m) (side_at m)
  is_there P p = subst (λ (s : side.Side). P (setting_at m) s) (same_side m) (subst (λ (z : Endpoint). P (setting_at z) (side_at z)) (sym is) p)

-- what is true of an endpoint with its setting and its side
pub seen_by : (e x : Endpoint) → setting_at e ≡ setting_at x → side_at e ≡ side_at x → (P : Setting → side.Side → Type 0) → P (setting_at e) (side_at e) → P (setting_at x) (side_at x)
seen_by e x setting same P p = subst (λ (g : Setting). P g (side_at x)) setting (subst (λ (s : side.Side). P (setting_at e) s) same p)

-- ---- behind it

-- it had this mark, and has become this; the other end is as it was, and what was made stands behind all
pub record Calls (s : Side) (j k : Joined) (m e : Endpoint) : Type 0 where
  pub before : unmark m ≡ end_at j s
  pub after : end_at k s ≡ unmark e
  pub others : (other : Side) → other ≢ s → end_at k other ≡ end_at j other
  pub grows : Grows s j k

-- what it did is seen
pub did : (s : Side) (j k : Joined) (m e : Endpoint) → Calls s j k m e → (f : Endpoint → Endpoint) → ((x : Endpoint) → unmark (f x) ≡ f (unmark x)) → e ≡ f m → end_at k s ≡ f (end_at j s)
did s j k m e calls f alike is = calls.after ∙ (ap unmark is ∙ (alike m ∙ ap f calls.before))

but_a : (X : Side → Type 0) → X code.B → (other : Side) → other ≢ code.A → X other
but_a X is code.A apart = absurd (apart refl)
but_a X is code.B apart = is

but_b : (X : Side → Type 0) → X code.A → (other : Side) → other ≢ code.B → X other
but_b X is code.A apart = is
but_b X is code.B apart = absurd (apart refl)

module _ (a b : Endpoint) (to_a to_b : List ℕ) (is : IsWorld a b to_a to_b) (j : Joined) (seen : joined a b ≡ j) where
  module _ (s : Side) (at : s ≡ code.A) where
    pub there_a : unmark a ≡ end_at j s
    there_a = sym (end_a a b to_a to_b is) ∙ (ap (λ w. end_at w code.A) seen ∙ ap (end_at j) (sym at))

    module _ (m : Endpoint) (marked : m ≡ stamped (length a.entries + length b.entries) a) where
      pub marked_a : unmark m ≡ end_at j s
      marked_a = ap unmark marked ∙ there_a

      module _ (e : Endpoint) (into from : List ℕ) (goes : Goes m to_a to_b e into from) where
        went_a : Goes (stamped (length a.entries + length b.entries) a) to_a to_b e into from
        went_a = subst (λ (x : Endpoint). Goes x to_a to_b e into from) marked goes

        pub world_a : IsWorld e b into from
        world_a = (a_called a b to_a to_b is (length a.entries + length b.entries) refl e into from went_a).world

        pub calls_a : Calls s j (joined e b) m e
        calls_a =
            let called = a_called a b to_a to_b is (length a.entries + length b.entries) refl e into from went_a in
            subst (λ z. Calls z j (joined e b) m e) (sym at)
            (record {
              before = marked_a ∙ ap (end_at j) at;
              after = called.seen;
              others = but_a (λ other. end_at (joined e b) other ≡ end_at j other) (called.other ∙ ap (λ w. end_at w code.B) seen);
              grows = subst (λ w. Grows code.A w (joined e b)) seen called.grows;
            })

  module _ (s : Side) (at : s ≡ code.B) where
    pub there_b : unmark b ≡ end_at j s
    there_b = sym (end_b a b to_a to_b is) ∙ (ap (λ w. end_at w code.B) seen ∙ ap (end_at j) (sym at))

    module _ (m : Endpoint) (marked : m ≡ stamped (length b.entries + length a.entries) b) where
      pub marked_b : unmark m ≡ end_at j s
      marked_b = ap unmark marked ∙ there_b

      module _ (e : Endpoint) (into from : List ℕ) (goes : Goes m to_b to_a e into from) where
        went_b : Goes (stamped (length b.entries + length a.entries) b) to_b to_a e into from
        went_b = subst (λ (x : Endpoint). Goes x to_b to_a e into from) marked goes

        pub world_b : IsWorld a e from into
        world_b = (b_called a b to_a to_b is (length b.entries + length a.entries) refl e into from went_b).world

        pub calls_b : Calls s j (joined a e) m e
        calls_b =
            let called = b_called a b to_a to_b is (length b.entries + length a.entries) refl e into from went_b in
            subst (λ z. Calls z j (joined a e) m e) (sym at)
            (record {
              before = marked_b ∙ ap (end_at j) at;
              after = called.seen;
              others = but_b (λ other. end_at (joined a e) other ≡ end_at j other) (called.other ∙ ap (λ w. end_at w code.A) seen);
              grows = subst (λ w. Grows code.B w (joined a e)) seen called.grows;
            })

-- what an endpoint has become is what it does
pub went : (m : Endpoint) (to from : List ℕ) (e f : Endpoint) (into out : List ℕ) → e ≡ f → Goes m to from f into out → Goes m to from e into out
went m to from e f into out is goes = subst (λ (x : Endpoint). Goes m to from x into out) (sym is) goes

-- ---- by an answer

pub if_some : {X : Type 0} (P Q : X → Type 0) → ((x : X) → P x → Q x) → (o : Option X) → IfSome o P → IfSome o Q
if_some P Q more (Some x) is = more x is
if_some P Q more None is = tt

pub if_none : {X P Q : Type 0} → (P → Q) → (o : Option X) → IfNone o P → IfNone o Q
if_none more (Some x) is = tt
if_none more None is = more is

pub if_ok : {X Y : Type 0} (P Q : X → Type 0) → ((x : X) → P x → Q x) → (r : Result X Y) → IfOk r P → IfOk r Q
if_ok P Q more (Ok x) is = more x is
if_ok P Q more (Err e) is = tt

pub on_ok : {X Y P Q : Type 0} → (P → Q) → (r : Result X Y) → OnOk r P → OnOk r Q
on_ok more (Ok x) is = more is
on_ok more (Err e) is = tt

pub on_err : {X Y P Q : Type 0} → (P → Q) → (r : Result X Y) → OnErr r P → OnErr r Q
on_err more (Ok x) is = tt
on_err more (Err e) is = more is
