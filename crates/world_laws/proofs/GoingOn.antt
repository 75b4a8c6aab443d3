-- Two ends that are joined, with the bytes between them, go on by an entry of one.
use Rattle.std.proofs.Common.{◌≡◌, refl, sym, ap, ◌∙◌, subst, ℕ, List, [], ◌∷◌, ◌++◌, length, take, drop}
use Rattle.std.proofs.lemmas.List.{append_assoc, append-nil, drop_at, take-append-drop}
use Rattle.bridge_model.specs.Entries.{Entry}
use Rattle.bridge_model.specs.Histories.{bytes_fed, bytes_drained}
use Rattle.bridge_laws.specs.SpellableGiving.{IsGivenByRoot, AreGivenByRoots}
use Rattle.bridge_laws.proofs.PlanLists.{all_push}
use Rattle.world_laws.specs.Ready.{AreReady}
use Rattle.world_model.specs.Worlds.{Settings, Event, entries_of}
use Rattle.world_model.specs.declared.side.Side.TheVariants.{A, B}
use Rattle.world_laws.proofs.RunLaws.{a_pushed, a_same, b_pushed, b_same}
use Rattle.world_laws.specs.Linking.{ArePiped}
use Rattle.world_laws.specs.Merging.{event_at, bytes_in, bytes_out, way_to, FeedsNext, EachFeedsNext}

-- ---- bytes

pub bytes_in_more : (es : List Entry) (e : Entry) → bytes_in (es ++ e ∷ []) ≡ bytes_in es ++ bytes_fed e
unfolding bytes_in
bytes_in_more [] e = append-nil (bytes_fed e)
bytes_in_more (x ∷ es) e = ap (λ s. bytes_fed x ++ s) (bytes_in_more es e) ∙ sym (append_assoc (bytes_fed x) (bytes_in es) (bytes_fed e))

pub bytes_out_more : (es : List Entry) (e : Entry) → bytes_out (es ++ e ∷ []) ≡ bytes_out es ++ bytes_drained e
unfolding bytes_out
bytes_out_more [] e = append-nil (bytes_drained e)
bytes_out_more (x ∷ es) e = ap (λ s. bytes_drained x ++ s) (bytes_out_more es e) ∙ sym (append_assoc (bytes_drained x) (bytes_out es) (bytes_drained e))

-- what is left of the bytes that went out, behind those that came in
pub left_is : (out into p : List ℕ) → out ≡ into ++ p → drop (length into) out ≡ p
left_is out into p is = ap (drop (length into)) is ∙ drop_at into p (length into) refl

-- a front of them is fed
left_more : (out into piece p : List ℕ) → out ≡ into ++ p → piece ≡ take (length piece) p → out ≡ (into ++ piece) ++ drop (length piece) p
left_more out into piece p is next =
    is ∙ (ap (λ s. into ++ s) (sym (take-append-drop (length piece) p) ∙ ap (λ s. s ++ drop (length piece) p) (sym next)) ∙ sym (append_assoc into piece (drop (length piece) p)))

-- more go out
out_more : (out into p more : List ℕ) → out ≡ into ++ p → out ++ more ≡ into ++ (p ++ more)
out_more out into p more is = ap (λ s. s ++ more) is ∙ append_assoc into p more

-- ---- events

comes_more : (front es : List Event) (e : Event) → EachFeedsNext front es → FeedsNext (front ++ es) e → EachFeedsNext front (es ++ e ∷ [])
unfolding EachFeedsNext
comes_more front [] e all next = (subst (λ fs. FeedsNext fs e) (append-nil front) next, tt)
comes_more front (x ∷ es) e all next = (all.0, comes_more (front ++ x ∷ []) es e all.1 (subst (λ fs. FeedsNext fs e) (sym (append_assoc front (x ∷ []) es)) next))

module _ (g : Settings) (es : List Event) (to_a to_b : List ℕ) (piped : ArePiped g es to_a to_b) where
  -- the bytes on their way are those of the journals
  pub way_a : way_to A es ≡ to_a
  way_a = left_is (bytes_out (entries_of B es)) (bytes_in (entries_of A es)) to_a piped.piped_a

  pub way_b : way_to B es ≡ to_b
  way_b = left_is (bytes_out (entries_of A es)) (bytes_in (entries_of B es)) to_b piped.piped_b

  -- A made an entry: what it fed leaves the bytes on their way to it, and what it drained is on its way
  pub a_goes_on : (e : Entry) → IsGivenByRoot e → bytes_fed e ≡ take (length (bytes_fed e)) to_a → ArePiped g (es ++ event_at A e ∷ []) (drop (length (bytes_fed e)) to_a) (to_b ++ bytes_drained e)
  a_goes_on e given next =
      record {
        ready = piped.ready;
        given_a = subst AreGivenByRoots (sym (a_pushed es e)) (all_push IsGivenByRoot (entries_of A es) e piped.given_a given);
        given_b = subst AreGivenByRoots (sym (b_same es e)) piped.given_b;
        comes = comes_more [] es (event_at A e) piped.comes (next ∙ ap (take (length (bytes_fed e))) (sym way_a));
        piped_a =
            ap bytes_out (b_same es e)
            ∙ (left_more (bytes_out (entries_of B es)) (bytes_in (entries_of A es)) (bytes_fed e) to_a piped.piped_a next
            ∙ ap (λ s. s ++ drop (length (bytes_fed e)) to_a) (sym (ap bytes_in (a_pushed es e) ∙ bytes_in_more (entries_of A es) e)));
        piped_b =
            (ap bytes_out (a_pushed es e) ∙ bytes_out_more (entries_of A es) e)
            ∙ (out_more (bytes_out (entries_of A es)) (bytes_in (entries_of B es)) to_b (bytes_drained e) piped.piped_b ∙ ap (λ fs. bytes_in fs ++ (to_b ++ bytes_drained e)) (sym (b_same es e)));
      }

  -- B made it
  pub b_goes_on : (e : Entry) → IsGivenByRoot e → bytes_fed e ≡ take (length (bytes_fed e)) to_b → ArePiped g (es ++ event_at B e ∷ []) (to_a ++ bytes_drained e) (drop (length (bytes_fed e)) to_b)
  b_goes_on e given next =
      record {
        ready = piped.ready;
        given_a = subst AreGivenByRoots (sym (a_same es e)) piped.given_a;
        given_b = subst AreGivenByRoots (sym (b_pushed es e)) (all_push IsGivenByRoot (entries_of B es) e piped.given_b given);
        comes = comes_more [] es (event_at B e) piped.comes (next ∙ ap (take (length (bytes_fed e))) (sym way_b));
        piped_a =
            (ap bytes_out (b_pushed es e) ∙ bytes_out_more (entries_of B es) e)
            ∙ (out_more (bytes_out (entries_of B es)) (bytes_in (entries_of A es)) to_a (bytes_drained e) piped.piped_a ∙ ap (λ fs. bytes_in fs ++ (to_a ++ bytes_drained e)) (sym (a_same es e)));
        piped_b =
            ap bytes_out (a_same es e)
            ∙ (left_more (bytes_out (entries_of A es)) (bytes_in (entries_of B es)) (bytes_fed e) to_b piped.piped_b next
            ∙ ap (λ s. s ++ drop (length (bytes_fed e)) to_b) (sym (ap bytes_in (b_pushed es e) ∙ bytes_in_more (entries_of B es) e)));
      }

-- nothing has happened
pub opening_piped : (g : Settings) → AreReady g → ArePiped g [] [] []
unfolding bytes_in bytes_out entries_of EachFeedsNext
opening_piped g ready = record { ready = ready; given_a = tt; given_b = tt; comes = tt; piped_a = refl; piped_b = refl }
