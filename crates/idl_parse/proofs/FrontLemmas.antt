-- What is read behind a list that stands in front already.
use Rattle.std.proofs.Common.{◌≡◌, List, ◌++◌, Result, Ok, Err, refl, sym, ap, ◌∙◌, append_assoc}
use Rattle.grammar_model.specs.Loops.{with_front}
use Rattle.grammar_model.specs.Readings.{Reads, ◌>>=◌, seq, image, ◌&◌, ◌&>◌}
use Rattle.grammar_model.specs.declared.fault.Fault.{Fault}
use Rattle.idl_parse.specs.Reading.{Fails}
use Rattle.idl_parse.specs.declared.stop.Stop.{Stop}
use Rattle.idl_parse.specs.declared.stop.Stop.TheVariants.{NoMemory, At}

-- a refusal is one of all that goes on with what is refused
pub goes_wrong : {A B : Type 0} (stop : Stop) (first : Result A Fault) (go : A → Result B Fault) (whole : Result B Fault) → whole ≡ (first >>= go)
    → Fails stop first
    → Fails stop whole
goes_wrong NoMemory first go whole is wrong = tt
goes_wrong {A = A} (At f) first go whole is wrong = is ∙ ap (λ (k : Result A Fault). k >>= go) wrong

-- ---- a list, a word, and a list

module _ {T X U : Type 0} (r : Reads T (List X)) (k : Reads T U) (s : Reads T (List X)) where
  abbrev pub joined : Reads T (List X)
  joined = image (λ z. z.0 ++ z.1) (r & k &> s)

  abbrev pub behind_word : List X → U × List T → Result (List X × List T) Fault
  behind_word front w = with_front front (s w.1)

  abbrev pub behind_list : List X × List T → Result (List X × List T) Fault
  behind_list z = k z.1 >>= behind_word z.0

  -- the steps of the reading, one by one
  abbrev word_with : U → List X × List T → Result ((U × List X) × List T) Fault
  word_with u y = Ok ((u, y.0), y.1)

  abbrev without_word : (U × List X) × List T → Result (List X × List T) Fault
  without_word z = Ok (z.0.1, z.1)

  abbrev list_with : List X → List X × List T → Result ((List X × List X) × List T) Fault
  list_with a y = Ok ((a, y.0), y.1)

  abbrev put_together : (List X × List X) × List T → Result (List X × List T) Fault
  put_together z = Ok (z.0.0 ++ z.0.1, z.1)

  ending : (front a : List X) (u : U) (read : Result (List X × List T) Fault)
      → with_front front ((((read >>= word_with u) >>= without_word) >>= list_with a) >>= put_together) ≡ with_front (front ++ a) read
  ending front a u (Ok z) = ap (λ (q : List X). Ok (q, z.1)) (sym (append_assoc front a z.0))
  ending front a u (Err e) = refl

  middle : (front a : List X) (read : Result (U × List T) Fault)
      → with_front front ((((read >>= λ v. (s v.1 >>= word_with v.0)) >>= without_word) >>= list_with a) >>= put_together) ≡ (read >>= behind_word (front ++ a))
  middle front a (Ok w) = ending front a w.0 (s w.1)
  middle front a (Err e) = refl

  split : (front : List X) (read : Result (List X × List T) Fault)
      → with_front front ((read >>= λ x. (image (λ z. z.1) (seq k s) x.1 >>= list_with x.0)) >>= put_together) ≡ (with_front front read >>= behind_list)
  split front (Ok z) = middle front z.0 (k z.1)
  split front (Err e) = refl

  pub joined_is : (front : List X) (toks : List T) → with_front front (joined toks) ≡ (with_front front (r toks) >>= behind_list)
  joined_is front toks = split front (r toks)

  pub joined_behind : (front now : List X) (toks left : List T) → with_front front (r toks) ≡ Ok (now, left)
      → with_front front (joined toks) ≡ (k left >>= behind_word now)
  joined_behind front now toks left is = joined_is front toks ∙ ap (λ (q : Result (List X × List T) Fault). q >>= behind_list) is

  pub joined_last : (front now : List X) (toks left behind : List T) (u : U) → with_front front (r toks) ≡ Ok (now, left) → k left ≡ Ok (u, behind)
      → with_front front (joined toks) ≡ with_front now (s behind)
  joined_last front now toks left behind u is word =
      joined_behind front now toks left is ∙ ap (λ (q : Result (U × List T) Fault). q >>= behind_word now) word

-- ---- a list, and what follows

module _ {T X Y Z : Type 0} (g : List X × Y → Z) (r : Reads T (List X)) (s : Reads T Y) where
  abbrev pub going : List X → Y × List T → Result (Z × List T) Fault
  going now y = Ok (g (now, y.0), y.1)

  abbrev pub with_rest : List X × List T → Result (Z × List T) Fault
  with_rest z = s z.1 >>= going z.0

  abbrev rest_with : List X → Y × List T → Result ((List X × Y) × List T) Fault
  rest_with a y = Ok ((a, y.0), y.1)

  abbrev made : List X → (List X × Y) × List T → Result (Z × List T) Fault
  made front z = Ok (g (front ++ z.0.0, z.0.1), z.1)

  rest_of : (front a : List X) (read : Result (Y × List T) Fault) → ((read >>= rest_with a) >>= made front) ≡ (read >>= going (front ++ a))
  rest_of front a (Ok y) = refl
  rest_of front a (Err e) = refl

  parts : (front : List X) (read : Result (List X × List T) Fault)
      → ((read >>= λ x. (s x.1 >>= rest_with x.0)) >>= made front) ≡ (with_front front read >>= with_rest)
  parts front (Ok z) = rest_of front z.0 (s z.1)
  parts front (Err e) = refl

  pub followed_is : (front : List X) (toks : List T) → image (λ z. g (front ++ z.0, z.1)) (r & s) toks ≡ (with_front front (r toks) >>= with_rest)
  followed_is front toks = parts front (r toks)

  pub followed_behind : (front now : List X) (toks left : List T) → with_front front (r toks) ≡ Ok (now, left)
      → image (λ z. g (front ++ z.0, z.1)) (r & s) toks ≡ (s left >>= going now)
  followed_behind front now toks left is = followed_is front toks ∙ ap (λ (q : Result (List X × List T) Fault). q >>= with_rest) is
