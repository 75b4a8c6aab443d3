-- What a call at one end makes of both: nothing, or one entry more, which fed what was next of the bytes on their way and drained behind them.
use Rattle.std.proofs.Common.{◌≡◌, refl, sym, ap, ◌∙◌, subst, ℕ, List, [], ◌∷◌, ◌++◌, length, take, drop}
use Rattle.std.proofs.lemmas.List.{append-nil}
use Rattle.bridge_core.specs.declared.side.Side.TheVariants as code
use Rattle.bridge_endpoint.specs.Journals.{Endpoint, with_entry}
use Rattle.bridge_model.specs.Entries.{Entry}
use Rattle.bridge_model.specs.Histories.{bytes_drained, bytes_fed}
use Rattle.bridge_laws.specs.SpellableGiving.{IsGivenByRoot}
use Rattle.world_laws.specs.Linking.{ArePiped}
use Rattle.world_laws.specs.Merging.{AreMerged, event_at, events_at, put_in}
use Rattle.world_laws.proofs.GoingOn.{a_goes_on, b_goes_on}
use Rattle.world_laws.proofs.MergeLaws.{marks_tell, more_of_a, more_of_b}
use Rattle.world_model.specs.Worlds.{Event, entries_of}
use Rattle.world_model.specs.declared.side.Side as which_side
use Rattle.world_model.specs.declared.side.Side.TheVariants.{A, B}
use Rattle.bridge_world.specs.Joined.{Grows, end_at, joined, settings_of, unmarked}
use Rattle.bridge_world.specs.Worlds.{IsWorld}
use Rattle.bridge_world.proofs.Unmarked.{unmark}

-- an end behind at most one entry, with the bytes on their way to it and from it
pub data Goes (e : Endpoint) (into from : List ℕ) : Endpoint → List ℕ → List ℕ → Type 0 where
  stays : Goes e into from e into from
  enters : (x : Entry) → IsGivenByRoot x → bytes_fed x ≡ take (length (bytes_fed x)) into → Goes e into from (with_entry x e) (drop (length (bytes_fed x)) into) (from ++ bytes_drained x)

-- an entry that feeds and drains nothing
pub enters_still : (e : Endpoint) (into from : List ℕ) (x : Entry) → IsGivenByRoot x → bytes_fed x ≡ [] → bytes_drained x ≡ [] → Goes e into from (with_entry x e) into from
enters_still e into from x given none out =
    let fed = ap (λ b. drop (length b) into) none in
    let drained = ap (λ b. from ++ b) out ∙ append-nil from in
    let next = none ∙ ap (λ b. take (length b) into) (sym none) in
    subst (λ ys. Goes e into from (with_entry x e) into ys) drained (subst (λ xs. Goes e into from (with_entry x e) xs (from ++ bytes_drained x)) fed (enters x given next))

module _ (a b : Endpoint) (to_a to_b : List ℕ) (is : IsWorld a b to_a to_b) where
  a_events : (x : Entry) → (joined (with_entry x a) b).events ≡ (joined a b).events ++ event_at A x ∷ []
  a_events x = marks_tell ((joined a b).events ++ event_at A x ∷ []) (a.entries ++ x ∷ []) b.entries (a.stamps ++ length (joined a b).events ∷ []) b.stamps (more_of_a (joined a b).events a.entries b.entries a.stamps b.stamps is.merged x)

  b_events : (x : Entry) → b.stamp ≡ length (joined a b).events → (joined a (with_entry x b)).events ≡ (joined a b).events ++ event_at B x ∷ []
  b_events x at =
      ap (λ n. put_in (b.stamps ++ n ∷ []) (b.entries ++ x ∷ []) (events_at A a.entries)) at
      ∙ marks_tell ((joined a b).events ++ event_at B x ∷ []) a.entries (b.entries ++ x ∷ []) a.stamps (b.stamps ++ length (joined a b).events ∷ []) (more_of_b (joined a b).events a.entries b.entries a.stamps b.stamps is.merged x)

  a_enters : (x : Entry) → a.stamp ≡ length (joined a b).events → IsGivenByRoot x → bytes_fed x ≡ take (length (bytes_fed x)) to_a → IsWorld (with_entry x a) b (drop (length (bytes_fed x)) to_a) (to_b ++ bytes_drained x)
  a_enters x at given next =
      record {
        registry = is.registry;
        merged =
            subst (λ fs. AreMerged fs (a.entries ++ x ∷ []) b.entries (a.stamps ++ a.stamp ∷ []) b.stamps) (sym (a_events x))
            (subst (λ n. AreMerged ((joined a b).events ++ event_at A x ∷ []) (a.entries ++ x ∷ []) b.entries (a.stamps ++ n ∷ []) b.stamps) (sym at) (more_of_a (joined a b).events a.entries b.entries a.stamps b.stamps is.merged x));
        piped =
            subst (λ fs. ArePiped (settings_of (joined a b)) fs (drop (length (bytes_fed x)) to_a) (to_b ++ bytes_drained x)) (sym (a_events x))
            (a_goes_on (settings_of (joined a b)) (joined a b).events to_a to_b is.piped x given next);
      }

  b_enters : (x : Entry) → b.stamp ≡ length (joined a b).events → IsGivenByRoot x → bytes_fed x ≡ take (length (bytes_fed x)) to_b → IsWorld a (with_entry x b) (to_a ++ bytes_drained x) (drop (length (bytes_fed x)) to_b)
  b_enters x at given next =
      record {
        registry = is.registry;
        merged =
            subst (λ fs. AreMerged fs a.entries (b.entries ++ x ∷ []) a.stamps (b.stamps ++ b.stamp ∷ [])) (sym (b_events x at))
            (subst (λ n. AreMerged ((joined a b).events ++ event_at B x ∷ []) a.entries (b.entries ++ x ∷ []) a.stamps (b.stamps ++ n ∷ [])) (sym at) (more_of_b (joined a b).events a.entries b.entries a.stamps b.stamps is.merged x));
        piped =
            subst (λ fs. ArePiped (settings_of (joined a b)) fs (to_a ++ bytes_drained x) (drop (length (bytes_fed x)) to_b)) (sym (b_events x at))
            (b_goes_on (settings_of (joined a b)) (joined a b).events to_a to_b is.piped x given next);
      }

  -- each end in what is seen of both is that endpoint without its marks
  pub end_a : end_at (joined a b) code.A ≡ unmark a
  end_a = ap (unmarked a.configured) is.merged.entries_a

  pub end_b : end_at (joined a b) code.B ≡ unmark b
  end_b = ap (unmarked b.configured) is.merged.entries_b

-- where A went on the two are joined still, B is as it was, and what A made stands behind all
pub a_joined : (a b : Endpoint) (to_a to_b : List ℕ) → IsWorld a b to_a to_b → a.stamp ≡ length (joined a b).events → (e : Endpoint) (into from : List ℕ) → Goes a to_a to_b e into from → IsWorld e b into from
a_joined a b to_a to_b is at e' into' from' stays = is
a_joined a b to_a to_b is at e' into' from' (enters x given next) = a_enters a b to_a to_b is x at given next

pub b_joined : (a b : Endpoint) (to_a to_b : List ℕ) → IsWorld a b to_a to_b → b.stamp ≡ length (joined a b).events → (e : Endpoint) (into from : List ℕ) → Goes b to_b to_a e into from → IsWorld a e from into
b_joined a b to_a to_b is at e' into' from' stays = is
b_joined a b to_a to_b is at e' into' from' (enters x given next) = b_enters a b to_a to_b is x at given next

-- ---- what is seen of it

made_none : (xs : List Entry) → drop (length xs) xs ≡ []
made_none [] = refl
made_none (x ∷ xs) = made_none xs

made_one : (xs : List Entry) (x : Entry) → drop (length xs) (xs ++ x ∷ []) ≡ x ∷ []
made_one [] x = refl
made_one (y ∷ xs) x = made_one xs x

module _ (a b : Endpoint) (to_a to_b : List ℕ) (is : IsWorld a b to_a to_b) where
  -- the end that went on, and the other one
  pub a_seen : (at : a.stamp ≡ length (joined a b).events) (e : Endpoint) (into from : List ℕ) → Goes a to_a to_b e into from → end_at (joined e b) code.A ≡ unmark e
  a_seen at e into from goes = end_a e b into from (a_joined a b to_a to_b is at e into from goes)

  pub a_other : (at : a.stamp ≡ length (joined a b).events) (e : Endpoint) (into from : List ℕ) → Goes a to_a to_b e into from → end_at (joined e b) code.B ≡ end_at (joined a b) code.B
  a_other at e into from goes = end_b e b into from (a_joined a b to_a to_b is at e into from goes) ∙ sym (end_b a b to_a to_b is)

  pub b_seen : (at : b.stamp ≡ length (joined a b).events) (e : Endpoint) (into from : List ℕ) → Goes b to_b to_a e into from → end_at (joined a e) code.B ≡ unmark e
  b_seen at e into from goes = end_b a e from into (b_joined a b to_a to_b is at e into from goes)

  pub b_other : (at : b.stamp ≡ length (joined a b).events) (e : Endpoint) (into from : List ℕ) → Goes b to_b to_a e into from → end_at (joined a e) code.A ≡ end_at (joined a b) code.A
  b_other at e into from goes = end_a a e from into (b_joined a b to_a to_b is at e into from goes) ∙ sym (end_a a b to_a to_b is)

grown : (es : List Event) (s : which_side.Side) (xs ys zs : List Entry) → xs ≡ zs → ys ≡ zs → es ≡ es ++ events_at s (drop (length xs) ys)
grown es s xs ys zs one two = sym (ap (λ fs. es ++ events_at s fs) (ap (λ l. drop (length l) ys) one ∙ (ap (drop (length zs)) two ∙ made_none zs)) ∙ append-nil es)

grown_by : (es : List Event) (s : which_side.Side) (xs ys zs : List Entry) (x : Entry) → xs ≡ zs → ys ≡ zs ++ x ∷ [] → es ++ event_at s x ∷ [] ≡ es ++ events_at s (drop (length xs) ys)
grown_by es s xs ys zs x one two = sym (ap (λ fs. es ++ events_at s fs) (ap (λ l. drop (length l) ys) one ∙ (ap (drop (length zs)) two ∙ made_one zs x)))

-- what it made stands behind all others
pub a_grows : (a b : Endpoint) (to_a to_b : List ℕ) (is : IsWorld a b to_a to_b) → a.stamp ≡ length (joined a b).events → (e : Endpoint) (into from : List ℕ) → Goes a to_a to_b e into from → Grows code.A (joined a b) (joined e b)
a_grows a b to_a to_b is at e' into' from' stays =
    record { a = refl; b = refl; events = grown (joined a b).events A (entries_of A (joined a b).events) (entries_of A (joined a b).events) a.entries is.merged.entries_a is.merged.entries_a }
a_grows a b to_a to_b is at e' into' from' (enters x given next) =
    let new = a_enters a b to_a to_b is x at given next in
    record {
      a = refl;
      b = refl;
      events = a_events a b to_a to_b is x ∙ grown_by (joined a b).events A (entries_of A (joined a b).events) (entries_of A (joined (with_entry x a) b).events) a.entries x is.merged.entries_a new.merged.entries_a;
    }

pub b_grows : (a b : Endpoint) (to_a to_b : List ℕ) (is : IsWorld a b to_a to_b) → b.stamp ≡ length (joined a b).events → (e : Endpoint) (into from : List ℕ) → Goes b to_b to_a e into from → Grows code.B (joined a b) (joined a e)
b_grows a b to_a to_b is at e' into' from' stays =
    record { a = refl; b = refl; events = grown (joined a b).events B (entries_of B (joined a b).events) (entries_of B (joined a b).events) b.entries is.merged.entries_b is.merged.entries_b }
b_grows a b to_a to_b is at e' into' from' (enters x given next) =
    let new = b_enters a b to_a to_b is x at given next in
    record {
      a = refl;
      b = refl;
      events = b_events a b to_a to_b is x at ∙ grown_by (joined a b).events B (entries_of B (joined a b).events) (entries_of B (joined a (with_entry x b)).events) b.entries x is.merged.entries_b new.merged.entries_b;
    }
