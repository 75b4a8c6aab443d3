-- Grammars as relations: `P x u` says that the tokens u spell the tree x. Each combinator is one form of a grammar's rule.
use Rattle.std.specs.Prelude.{◌≡◌, Bool, true, ◌⊎◌, List, [], ◌∷◌, ◌++◌, Option, None, Some}

-- one token, which f takes for that tree
abbrev pub One : {T X : Type 0} → (T → Option X) → X → List T → Type 0
One {T = T} f x u = (t : T) × (u ≡ t ∷ []) × (f t ≡ Some x)

-- two tokens, the second of which belongs to the first
abbrev pub Touching : {T X : Type 0} → (T → Option X) → (T → T → Bool) → X → List T → Type 0
Touching {T = T} f belongs x u = (t : T) × (s : T) × (u ≡ t ∷ (s ∷ [])) × (f t ≡ Some x) × (belongs t s ≡ true)

-- no token
abbrev pub Empty : {T X : Type 0} → X → X → List T → Type 0
Empty x y u = (y ≡ x) × (u ≡ [])

-- the one behind the other
abbrev pub Seq : {T X Y : Type 0} → (X → List T → Type 0) → (Y → List T → Type 0) → X × Y → List T → Type 0
Seq {T = T} P Q z u = (p : List T) × (q : List T) × (u ≡ p ++ q) × P z.0 p × Q z.1 q

-- the tree that g makes of another one
abbrev pub Image : {T X Y : Type 0} → (X → Y) → (X → List T → Type 0) → Y → List T → Type 0
Image {X = X} g P y u = (x : X) × (y ≡ g x) × P x u

-- the one or the other: `P | Q`
abbrev pub Either : {T X : Type 0} → (X → List T → Type 0) → (X → List T → Type 0) → X → List T → Type 0
Either P Q x u = P x u ⊎ Q x u

-- it or nothing: `[ P ]`
abbrev pub Optional : {T X : Type 0} → (X → List T → Type 0) → Option X → List T → Type 0
Optional P None u = u ≡ []
Optional P (Some x) u = P x u

-- any number of them: `{ P }`
unfoldable pub Many : {T X : Type 0} → (X → List T → Type 0) → List X → List T → Type 0
Many P [] u = u ≡ []
Many {T = T} P (x ∷ xs) u = (p : List T) × (q : List T) × (u ≡ p ++ q) × P x p × Many P xs q

-- the one behind the other, where the tree of one alone is kept: `P Q` of words and marks
infixr 40 ◌&◌
abbrev pub ◌&◌ : {T X Y : Type 0} → (X → List T → Type 0) → (Y → List T → Type 0) → X × Y → List T → Type 0
P & Q = Seq P Q

infixr 40 ◌&>◌
abbrev pub ◌&>◌ : {T X Y : Type 0} → (X → List T → Type 0) → (Y → List T → Type 0) → Y → List T → Type 0
P &> Q = Image (λ z. z.1) (Seq P Q)

infixr 40 ◌<&◌
abbrev pub ◌<&◌ : {T X Y : Type 0} → (X → List T → Type 0) → (Y → List T → Type 0) → X → List T → Type 0
P <& Q = Image (λ z. z.0) (Seq P Q)

-- one, and any number of others, each behind a separator: `P { S P }`
abbrev pub Separated : {T X Y : Type 0} → (X → List T → Type 0) → (Y → List T → Type 0) → List X → List T → Type 0
Separated P S = Image (λ z. z.0 ∷ z.1) (Seq P (Many (S &> P)))

-- what stands between two brackets: `P inside Q`, where the trees of Q are all one
abbrev pub Bracketed : {T X Y : Type 0} → (X → List T → Type 0) → (List T → Type 0) → (Y → List T → Type 0) → X → List T → Type 0
Bracketed {T = T} {Y = Y} P inside Q x u = (p : List T) × (q : List T) × (s : List T) × (u ≡ p ++ (q ++ s)) × P x p × inside q × ((y : Y) × Q y s)
