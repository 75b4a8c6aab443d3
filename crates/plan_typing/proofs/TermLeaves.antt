-- The value that a token is at a type fits the type, and has no object in it.
use Rattle.std.proofs.Common.{◌≡◌, refl, ℕ, ℤ, pos, Bool, true, false, List, [], ◌∷◌, Option, None, Some, codes, if◌then◌else◌}
use Rattle.std.specs.Str.{bytes_eq}
use mathlib.Core.Path.{subst}
use Rattle.literal_model.specs.Literals.{Token, number, word, string}
use Rattle.literal_model.specs.Readings.{number_in, word_in, string_in, named_in, and_then, unsigned_of, signed_of, truth_of, word_as, item_in, some_as, single}
use Rattle.uno_model.specs.Defaults.{items_of}
use Rattle.uno_model.specs.Entities.{Entity}
use Rattle.uno_model.specs.Fits.{Fits}
use Rattle.uno_model.specs.Kinds.{Kind}
use Rattle.uno_model.specs.Kinds as kd
use Rattle.uno_model.specs.Registry.{find_entity}
use Rattle.uno_model.specs.Types.{is_type}
use Rattle.uno_model.specs.Values.{Plain, null, refs}
use Rattle.uno_model.specs.Values as v
use Rattle.uno_model.proofs.Options.{same_some, none_some}
use Rattle.plan_model.specs.Forms.{is_leaf}

-- a value of the type with no object in it
abbrev pub ClosedFits : List Entity → Kind → Plain → Type 0
ClosedFits reg k x = Fits reg x k × (refs x ≡ [])

module _ (P : Plain → Type 0) (x : Plain) where
  -- what holds of all that is made holds of what there is
  of_made : {X : Type 0} (mk : X → Plain) (o : Option X) → ((n : X) → P (mk n)) → some_as mk o ≡ Some x → P x
  of_made mk None all is = absurd (none_some is)
  of_made mk (Some n) all is = subst P (same_some is) (all n)

  of_word : (asked : List ℕ) (y : Plain) (w : List ℕ) → P y → word_as asked y w ≡ Some x → P x
  of_word asked y w there is = by_test (bytes_eq w asked) is
    where
      by_test : (b : Bool) → (if b then Some y else None) ≡ Some x → P x
      by_test true to = subst P (same_some to) there
      by_test false to = absurd (none_some to)

  of_token : (asked : List ℕ) (y : Plain) (t : Token) → P y → and_then (word_in t) (word_as asked y) ≡ Some x → P x
  of_token asked y t there is = by_word (word_in t) is
    where
      by_word : (o : Option (List ℕ)) → and_then o (word_as asked y) ≡ Some x → P x
      by_word None to = absurd (none_some to)
      by_word (Some w) to = of_word asked y w there to

-- no term is a token that names a type
no_type : (reg : List Entity) (t : Token) (x : Plain) → is_leaf reg t ≡ true → some_as v.kind (named_in t) ≡ Some x → ⊥
no_type reg (number n) x formed is = none_some is
no_type reg (word w) x formed is = none_some is
no_type reg (string s) x formed is = none_some is
no_type reg _ x formed is = cc

pub single_fits : (reg : List Entity) (k : Kind) (t : Token) (x : Plain) → is_type reg k ≡ true → is_leaf reg t ≡ true → single reg k t ≡ Some x → ClosedFits reg k x
unfolding Fits refs
single_fits reg kd.void t x there formed is = of_token (ClosedFits reg kd.void) x (codes "void") v.void t (refl, refl) is
single_fits reg kd.char t x there formed is = of_made (ClosedFits reg kd.char) x v.char (and_then (number_in t) (unsigned_of 16)) (λ n. (refl, refl)) is
single_fits reg kd.boolean t x there formed is = of_made (ClosedFits reg kd.boolean) x v.boolean (and_then (word_in t) truth_of) (λ n. (refl, refl)) is
single_fits reg kd.byte t x there formed is = of_made (ClosedFits reg kd.byte) x v.byte (and_then (number_in t) (signed_of 7)) (λ n. (refl, refl)) is
single_fits reg kd.short t x there formed is = of_made (ClosedFits reg kd.short) x v.short (and_then (number_in t) (signed_of 15)) (λ n. (refl, refl)) is
single_fits reg kd.unsigned_short t x there formed is =
    of_made (ClosedFits reg kd.unsigned_short) x v.unsigned_short (and_then (number_in t) (unsigned_of 16)) (λ n. (refl, refl)) is
single_fits reg kd.long t x there formed is = of_made (ClosedFits reg kd.long) x v.long (and_then (number_in t) (signed_of 31)) (λ n. (refl, refl)) is
single_fits reg kd.unsigned_long t x there formed is =
    of_made (ClosedFits reg kd.unsigned_long) x v.unsigned_long (and_then (number_in t) (unsigned_of 32)) (λ n. (refl, refl)) is
single_fits reg kd.hyper t x there formed is = of_made (ClosedFits reg kd.hyper) x v.hyper (and_then (number_in t) (signed_of 63)) (λ n. (refl, refl)) is
single_fits reg kd.unsigned_hyper t x there formed is =
    of_made (ClosedFits reg kd.unsigned_hyper) x v.unsigned_hyper (and_then (number_in t) (unsigned_of 64)) (λ n. (refl, refl)) is
single_fits reg kd.str t x there formed is = of_made (ClosedFits reg kd.str) x v.str (string_in t) (λ s. (refl, refl)) is
single_fits reg kd.kind t x there formed is = absurd (no_type reg t x formed is)
single_fits reg (kd.enum name) t x there formed is =
    of_made (ClosedFits reg (kd.enum name)) x (v.enum name) (item_in (items_of (find_entity name reg)) t) (λ n. ((refl, there), refl)) is
single_fits reg (kd.interface name) t x there formed is = of_token (ClosedFits reg (kd.interface name)) x (codes "null") (v.ref null) t (there, refl) is
single_fits reg _ t x there formed is = absurd (cc)
