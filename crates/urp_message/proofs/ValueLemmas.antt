-- The values of a message, of which some were read before.
use Rattle.std.proofs.Common.{◌≡◌, ℕ, List, [], ◌∷◌, ◌++◌, Result, Ok, Err, IsErr, refl, sym, ap, subst, ◌∙◌, append_assoc}
use Rattle.std.proofs.lemmas.List.{append-nil}
use Rattle.std.specs.Result.{IsErrAnd}
use Rattle.uno_model.specs.Kinds.{Kind}
use Rattle.uno_model.specs.Values.{Plain}
use Rattle.urp_model.specs.Parts.{◌>>=◌}
use Rattle.urp_model.specs.Reading.{Reads, members_at}
use Rattle.urp_model.specs.Tables.{Tables}
use Rattle.urp_model.specs.declared.fault.Fault.{Fault}
use Rattle.urp_wire.specs.Gives.{Fails, Gives}
use Rattle.urp_wire.specs.declared.error.WireError.{WireError}
use Rattle.urp_wire.specs.declared.error.WireError.TheVariants as error
use Rattle.urp_wire.proofs.Loops.{Several, with_front, behind}

-- a `?` hands the failure on
pub handed_over : {X A : Type 0} (view : X → A) (r : Result X WireError) (e : WireError) (verdict : Result A Fault) → IsErr r × IsErrAnd r (λ f. f ≡ e)
    → Fails e verdict → Gives view r verdict
handed_over view (Ok x) e verdict is failed = let bad : ⊥ = cc in absurd bad
handed_over view (Err f) e verdict is failed = subst (λ g. Fails g verdict) (sym is.1) failed

-- the types of the values that are left, now and after the next parameter
module _ (r : Kind → Reads) (left after : List Kind) (s : Tables) (bs : List ℕ) (front : List Plain) (whole : Several)
    (before : with_front front (members_at r left s bs) ≡ whole) where
  -- the next parameter carries no value
  pub passed_over : left ≡ after → with_front front (members_at r after s bs) ≡ whole
  passed_over is = ap (λ ks. with_front front (members_at r ks s bs)) (sym is) ∙ before

  module _ (k : Kind) (is : left ≡ k ∷ after) where
    -- one more is read
    pub one_more : (v : Plain) (t : Tables) (rest : List ℕ) (now : List Plain) → r k s bs ≡ Ok (v, t, rest) → now ≡ front ++ v ∷ []
        → with_front now (members_at r after t rest) ≡ whole
    unfolding members_at
    one_more v t rest now reads pushed =
        rw pushed (by_others (members_at r after t rest) ∙ ap (with_front front) (sym step) ∙ before)
      where
        by_others : (others : Several) → with_front (front ++ v ∷ []) others ≡ with_front front (behind v others)
        by_others (Ok x) = rw append_assoc refl
        by_others (Err f) = refl

        in_front : (others : Several) → (others >>= (λ x. Ok (v ∷ x.0, x.1, x.2))) ≡ behind v others
        in_front (Ok x) = refl
        in_front (Err f) = refl

        step : members_at r left s bs ≡ behind v (members_at r after t rest)
        step = rw (is, reads) (in_front (members_at r after t rest))

    read_none : (f : Fault) → r k s bs ≡ Err f → whole ≡ Err f
    unfolding members_at
    read_none f is_fault = sym before ∙ rw (is, is_fault) refl

    pub fails : (e : WireError) → Fails e (r k s bs) → Fails e whole
    fails error.NoMemory failed = tt
    fails error.Short failed = read_none _ failed
    fails (error.Bad reason) failed = read_none _ failed

  -- none is left
  pub all_read : left ≡ [] → whole ≡ Ok (front, s, bs)
  unfolding members_at
  all_read none = sym before ∙ rw none (ap (λ vs. Ok (vs, s, bs)) (append-nil front))
