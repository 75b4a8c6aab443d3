-- Values name no threads: the slots of threads mean after a value what they meant before.
use Rattle.std.proofs.Common.{◌≡◌, ℕ, zero, suc, Bool, true, false, List, [], ◌∷◌, ap, ◌∙◌}
use Rattle.uno_model.specs.Entities.{Entity}
use Rattle.uno_model.specs.Fits.{member_kinds}
use Rattle.uno_model.specs.Kinds.{Kind}
use Rattle.uno_model.specs.Kinds as kd
use Rattle.uno_model.specs.Values.{Plain}
use Rattle.urp_model.specs.NamedKinds.{is_byte}
use Rattle.urp_model.specs.Spelling.{Spelled, SpellsAll, SpellsEach, SpellsSequence, SpellsStep, Spells}
use Rattle.urp_model.specs.Tables.{Tables}

abbrev pub KeepsThreads : (Kind → Spelled) → Type 0
KeepsThreads S = (k : Kind) (s t : Tables) (x : Plain) (b : List ℕ) → S k s x b t → t.tids ≡ s.tids

kept : (s t : Tables) → t ≡ s → t.tids ≡ s.tids
kept s t same = ap (λ (u : Tables). u.tids) same

module _ (S : Kind → Spelled) (h : KeepsThreads S) where
  all_keep : (k : Kind) (xs : List Plain) (s t : Tables) (b : List ℕ) → SpellsAll (S k) s xs b t → t.tids ≡ s.tids
  unfolding SpellsAll
  all_keep k [] s t b spelled = kept s t spelled.1
  all_keep k (x ∷ xs) s t b spelled = all_keep k xs spelled.2 t spelled.1 spelled.5 ∙ h k s spelled.2 x spelled.0 spelled.4

  pub each_keeps : (ks : List Kind) (xs : List Plain) (s t : Tables) (b : List ℕ) → SpellsEach S ks s xs b t → t.tids ≡ s.tids
  unfolding SpellsEach
  each_keeps [] xs s t b spelled = kept s t spelled.2
  each_keeps (k ∷ ks) xs s t b spelled = each_keeps ks spelled.1 spelled.4 t spelled.3 spelled.8 ∙ h k s spelled.4 spelled.0 spelled.2 spelled.7

  sequence_keeps : (k : Kind) (s t : Tables) (x : Plain) (b : List ℕ) (bytes : Bool) → SpellsSequence bytes (S k) k s x b t → t.tids ≡ s.tids
  sequence_keeps k s t x b true spelled = kept s t spelled.3
  sequence_keeps k s t x b false spelled = all_keep k spelled.0 s t spelled.2 spelled.6

  step_keeps : (reg : List Entity) → KeepsThreads (SpellsStep reg S)
  unfolding SpellsStep
  step_keeps reg kd.void s t x b p = kept s t p.2
  step_keeps reg kd.char s t x b p = kept s t p.3
  step_keeps reg kd.boolean s t x b p = kept s t p.1
  step_keeps reg kd.byte s t x b p = kept s t p.3
  step_keeps reg kd.short s t x b p = kept s t p.3
  step_keeps reg kd.unsigned_short s t x b p = kept s t p.3
  step_keeps reg kd.long s t x b p = kept s t p.3
  step_keeps reg kd.unsigned_long s t x b p = kept s t p.3
  step_keeps reg kd.hyper s t x b p = kept s t p.3
  step_keeps reg kd.unsigned_hyper s t x b p = kept s t p.3
  step_keeps reg kd.str s t x b p = kept s t p.3
  step_keeps reg kd.kind s t x b p = ap (λ (u : Tables). u.tids) p.4
  step_keeps reg kd.any s t x b (k, v, p, q, after, at, split, type, other, inside) = h k (record { types = after; oids = s.oids; tids = s.tids }) t v q inside
  step_keeps reg (kd.enum name) s t x b p = kept s t p.3
  step_keeps reg (kd.struct name) s t x b p = each_keeps (member_kinds reg name) p.0 s t b p.2
  step_keeps reg (kd.exception name) s t x b p = each_keeps (member_kinds reg name) p.0 s t b p.2
  step_keeps reg (kd.interface face) s t x b p = ap (λ (u : Tables). u.tids) p.4
  step_keeps reg (kd.sequence k) s t x b p = sequence_keeps k s t x b (is_byte k) p

pub value_keeps : (reg : List Entity) (d : ℕ) → KeepsThreads (Spells d reg)
unfolding Spells
value_keeps reg zero k s t x b spelled = absurd spelled
value_keeps reg (suc d) k s t x b spelled = step_keeps (Spells d reg) (value_keeps reg d) reg k s t x b spelled
