-- Reading one value after the other, of which some were read before.
use Rattle.std.proofs.Common.{◌≡◌, ℕ, suc, ◌+◌, ◌-◌, ◌<◌, List, [], ◌∷◌, ◌++◌, Result, Ok, Err, refl, sym, ap, ◌∙◌, append_assoc, arith}
use Rattle.uno_model.specs.Values.{Plain}
use Rattle.urp_model.specs.Parts.{◌>>=◌}
use Rattle.urp_model.specs.Reading.{Reads, elements_at}
use Rattle.urp_model.specs.Tables.{Tables}
use Rattle.urp_model.specs.declared.fault.Fault.{Fault}
use Rattle.urp_wire.specs.Gives.{Fails}
use Rattle.urp_wire.specs.declared.error.WireError.{WireError}
use Rattle.urp_wire.specs.declared.error.WireError.TheVariants as error

-- values, what the slots mean after them, and the bytes behind them, or a fault
abbrev pub Several : Type 0
Several = Result (List Plain × Tables × List ℕ) Fault

-- what was read, in front of what is read next
abbrev pub with_front : List Plain → Several → Several
with_front front (Ok x) = Ok (front ++ x.0, x.1, x.2)
with_front front (Err f) = Err f

-- the next value is in front of all after it
abbrev pub behind : Plain → Several → Several
behind v (Ok x) = Ok (v ∷ x.0, x.1, x.2)
behind v (Err f) = Err f

module _ (r : Reads) (n place : ℕ) (s : Tables) (bs : List ℕ) (more : place < n) where
  -- one more is read
  read_next : (v : Plain) (t : Tables) (rest : List ℕ) → r s bs ≡ Ok (v, t, rest) → elements_at r (n - place) s bs ≡ behind v (elements_at r (n - (place + 1)) t rest)
  unfolding elements_at
  read_next v t rest is =
      let count : n - place ≡ suc (n - (place + 1)) = omega arith in
      rw (count, is) (by_others (elements_at r (n - (place + 1)) t rest))
    where
      by_others : (others : Several) → (others >>= (λ x. Ok (v ∷ x.0, x.1, x.2))) ≡ behind v others
      by_others (Ok x) = refl
      by_others (Err f) = refl

  read_none : (f : Fault) → r s bs ≡ Err f → elements_at r (n - place) s bs ≡ Err f
  unfolding elements_at
  read_none f is = let count : n - place ≡ suc (n - (place + 1)) = omega arith in rw (count, is) refl

  pub goes_on : (front : List Plain) (v : Plain) (t : Tables) (rest : List ℕ) (whole : Several) → with_front front (elements_at r (n - place) s bs) ≡ whole
      → r s bs ≡ Ok (v, t, rest) → with_front (front ++ v ∷ []) (elements_at r (n - (place + 1)) t rest) ≡ whole
  goes_on front v t rest whole before is =
      by_others (elements_at r (n - (place + 1)) t rest) ∙ ap (with_front front) (sym (read_next v t rest is)) ∙ before
    where
      by_others : (others : Several) → with_front (front ++ v ∷ []) others ≡ with_front front (behind v others)
      by_others (Ok x) = rw append_assoc refl
      by_others (Err f) = refl

  pub fails : (front : List Plain) (e : WireError) (whole : Several) → with_front front (elements_at r (n - place) s bs) ≡ whole → Fails e (r s bs) → Fails e whole
  fails front error.NoMemory whole before is = tt
  fails front error.Short whole before is = sym before ∙ ap (with_front front) (read_none _ is)
  fails front (error.Bad reason) whole before is = sym before ∙ ap (with_front front) (read_none _ is)
