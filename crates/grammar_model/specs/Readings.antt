-- Grammars as readings: what stands at the front of a text, by one token that is looked at ahead. Each combinator reads what the relation of its name says.
use Rattle.std.specs.Prelude.{ℕ, zero, suc, Bool, List, [], ◌∷◌, length, Option, None, Some, Result, Ok, Err, if◌then◌else◌}
use Rattle.grammar_model.specs.declared.fault.Fault.{Fault}
use Rattle.grammar_model.specs.declared.fault.Why.{Why}
use Rattle.grammar_model.specs.declared.fault.Why.TheVariants.{Unexpected, Nested}

-- a text is a tree and what is left behind it, or it goes wrong
abbrev pub Reads : Type 0 → Type 0 → Type 0
Reads T X = List T → Result (X × List T) Fault

-- the next token, if there is one
abbrev pub next : {T : Type 0} → List T → Option T
next [] = None
next (t ∷ ts) = Some t

-- why, and how many tokens are left
abbrev pub fault : Why → ℕ → Fault
fault why n = record { why = why; left = n }

abbrev pub halt : {T X : Type 0} → Why → Reads T X
halt why toks = Err (fault why (length toks))

infixl 10 ◌>>=◌
abbrev pub ◌>>=◌ : {A B : Type 0} → Result A Fault → (A → Result B Fault) → Result B Fault
(Ok x) >>= f = f x
(Err e) >>= f = Err e

-- what a token was taken for
abbrev pub taken : {T X : Type 0} → Option X → List T → List T → Result (X × List T) Fault
taken None toks rest = halt Unexpected toks
taken (Some x) toks rest = Ok (x, rest)

abbrev pub one : {T X : Type 0} → (T → Option X) → Reads T X
one f [] = halt Unexpected []
one f (t ∷ rest) = taken (f t) (t ∷ rest) rest

-- the token that belongs to one that was read
abbrev pub belonging : {T X : Type 0} → (T → Bool) → X → Reads T X
belonging test x [] = halt Unexpected []
belonging test x (s ∷ rest) = if test s then Ok (x, rest) else halt Unexpected (s ∷ rest)

abbrev pub touched : {T X : Type 0} → Option X → (T → Bool) → List T → Reads T X
touched None test toks rest = halt Unexpected toks
touched (Some x) test toks rest = belonging test x rest

abbrev pub touching : {T X : Type 0} → (T → Option X) → (T → T → Bool) → Reads T X
touching f belongs [] = halt Unexpected []
touching f belongs (t ∷ rest) = touched (f t) (belongs t) (t ∷ rest) rest

abbrev pub empty : {T X : Type 0} → X → Reads T X
empty x toks = Ok (x, toks)

abbrev pub seq : {T X Y : Type 0} → Reads T X → Reads T Y → Reads T (X × Y)
seq r s toks = do
  x ← r toks
  y ← s x.1
  Ok ((x.0, y.0), y.1)

abbrev pub image : {T X Y : Type 0} → (X → Y) → Reads T X → Reads T Y
image g r toks = do
  x ← r toks
  Ok (g x.0, x.1)

-- the one where the next token passes a test, else the other
abbrev pub choice : {T X : Type 0} → (Option T → Bool) → Reads T X → Reads T X → Reads T X
choice c r s toks = if c (next toks) then r toks else s toks

abbrev pub optional : {T X : Type 0} → (Option T → Bool) → Reads T X → Reads T (Option X)
optional c r = choice c (image Some r) (empty None)

-- one after the other as long as the next token passes a test, and at most so many
unfoldable pub many_at : {T X : Type 0} → ℕ → (Option T → Bool) → Reads T X → Reads T (List X)
many_at zero c r toks = Ok ([], toks)
many_at (suc n) c r toks = choice c (image (λ z. z.0 ∷ z.1) (seq r (many_at n c r))) (empty []) toks

abbrev pub many : {T X : Type 0} → (Option T → Bool) → Reads T X → Reads T (List X)
many c r toks = many_at (length toks) c r toks

infixr 40 ◌&◌
abbrev pub ◌&◌ : {T X Y : Type 0} → Reads T X → Reads T Y → Reads T (X × Y)
r & s = seq r s

infixr 40 ◌&>◌
abbrev pub ◌&>◌ : {T X Y : Type 0} → Reads T X → Reads T Y → Reads T Y
r &> s = image (λ z. z.1) (seq r s)

infixr 40 ◌<&◌
abbrev pub ◌<&◌ : {T X Y : Type 0} → Reads T X → Reads T Y → Reads T X
r <& s = image (λ z. z.0) (seq r s)

-- one, and others behind separators as long as a separator is next
abbrev pub separated : {T X Y : Type 0} → (Option T → Bool) → Reads T X → Reads T Y → Reads T (List X)
separated c r s = image (λ z. z.0 ∷ z.1) (seq r (many c (s &> r)))

-- others, each behind a separator, and a last separator behind which none begins
abbrev pub joined : {X Y : Type 0} → Y × Option (X × (List X × Option Y)) → List X × Option Y
joined (y, None) = ([], Some y)
joined (y, Some z) = (z.0 ∷ (z.1).0, (z.1).1)

unfoldable pub others_at : {T X Y : Type 0} → ℕ → (Option T → Bool) → (Option T → Bool) → Reads T X → Reads T Y → Reads T (List X × Option Y)
others_at zero c d r s toks = Ok (([], None), toks)
others_at (suc n) c d r s toks = choice c (image joined (seq s (optional d (seq r (others_at n c d r s))))) (empty ([], None)) toks

abbrev pub others : {T X Y : Type 0} → (Option T → Bool) → (Option T → Bool) → Reads T X → Reads T Y → Reads T (List X × Option Y)
others c d r s toks = others_at (length toks) c d r s toks

-- one, and others behind separators; the first test is that of a separator, the second that of what stands between two
abbrev pub separated_and_last : {T X Y : Type 0} → (Option T → Bool) → (Option T → Bool) → Reads T X → Reads T Y → Reads T (List X × Option Y)
separated_and_last c d r s = image (λ z. (z.0 ∷ (z.1).0, (z.1).1)) (seq r (others c d r s))

-- nothing more may open here: where the next token passes the test it opens one too many
abbrev pub closed : {T X : Type 0} → (Option T → Bool) → Reads T X
closed c toks = if c (next toks) then halt Nested toks else halt Unexpected toks

-- all of a text: its tree, or where it goes wrong
abbrev pub whole : {T X : Type 0} → X × List T → Result X Fault
whole (x, []) = Ok x
whole (x, t ∷ rest) = Err (fault Unexpected (length (t ∷ rest)))

abbrev pub verdict : {T X : Type 0} → Reads T X → List T → Result X Fault
verdict r toks = r toks >>= whole
