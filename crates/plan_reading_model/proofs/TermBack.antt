-- Terms that are read are spelled, and formed.
use Rattle.std.proofs.Common.{◌≡◌, ℕ, zero, suc, true, ◌==◌, List, [], ◌∷◌}
use Rattle.std.proofs.Common.{sym, subst}
use Rattle.std.proofs.lemmas.Bool.{eqb-true}
use Rattle.uno_model.proofs.Options.{none_some}
use Rattle.uno_model.specs.Entities.{Entity}
use Rattle.uno_model.specs.Names.{begins_identifier}
use Rattle.plan_model.specs.Lines.{Term}
use Rattle.plan_reading_model.specs.TermReading.{Reads}
use Rattle.plan_reading_model.specs.TermReading.{term_step, term_within}
use Rattle.plan_reading_model.proofs.PartRuns.{chosen}
use Rattle.plan_reading_model.proofs.TermStepBack.{IsTerm, IsSound, leaf_back, text_back, type_value_back, cast_back, plan_word_back, elements_back, members_back}
use Rattle.plan_reading_model.proofs.TermStepBack.{letters_back}

step_back : (reg : List Entity) (read : Reads Term) → IsSound reg read → IsSound reg (term_step reg read)
unfolding term_step
step_back reg read sound [] x e = absurd (none_some e)
step_back reg read sound (c ∷ cs) x e =
    chosen (c == 91) _ _ x e (λ is e. at 91 is (elements_back reg read cs x sound e)) (λ other e.
    chosen (c == 123) _ _ x e (λ is e. at 123 is (members_back reg read cs x sound e)) (λ other e.
    chosen (c == 34) _ _ x e (λ is e. at 34 is (text_back reg cs x e)) (λ other e.
    chosen (c == 60) _ _ x e (λ is e. at 60 is (type_value_back reg cs x e)) (λ other e.
    chosen (c == 40) _ _ x e (λ is e. at 40 is (cast_back reg read cs x sound e)) (λ other e.
    chosen (c == 36) _ _ x e (λ is e. plan_word_back reg (c ∷ cs) x e) (λ other e.
    chosen (begins_identifier c) _ _ x e (λ is e. letters_back reg read c cs x sound is e) (λ other e.
    leaf_back reg (c ∷ cs) x e)))))))
  where
    at : (d : ℕ) → (c == d) ≡ true → IsTerm reg (d ∷ cs) x → IsTerm reg (c ∷ cs) x
    at d is term = subst (λ b. IsTerm reg (b ∷ cs) x) (sym (eqb-true c d is)) term

pub within_back : (n : ℕ) (reg : List Entity) → IsSound reg (term_within n reg)
unfolding term_within
within_back zero reg bytes x e = absurd (none_some e)
within_back (suc n) reg bytes x e = step_back reg (term_within n reg) (within_back n reg) bytes x e
