-- The deed at a place among all of an end: those that stand in front of it are as many as are counted. And how many there are.
use Rattle.std.proofs.Common.{◌≡◌, refl, sym, subst, ℕ, zero, suc, ◌+◌, ◌-◌, ◌<◌, ◌≤◌, ◌^◌, Bool, true, false, List, [], ◌∷◌, ◌++◌, length, map, slice_get, Option, None, Some, is_some, arith}
use Rattle.bridge_laws.specs.Counting.{one_if}
use Rattle.plan_model.specs.Frames.{Stack, nth_tid}
use Rattle.world_model.specs.Moves as plain
use Rattle.world_model.specs.Moves.{Deed, applies, reaps, drains, carries, closes, applying, stepping, reaping, may_carry, may_close, deeds}
use Rattle.plan_model.specs.Roots.{Run}
use Rattle.bridge_model.specs.Answers.{bytes_wait, may_reap, ready_at}
use Rattle.bridge_model.specs.Histories.{Told}
use Rattle.bridge_model.specs.Settings.{Setting}
use Rattle.move_choice.specs.Choosing.{AreChoices, counted}
use Rattle.move_choice.specs.declared.choices.Choices.{Choices}

-- ---- a list with another behind it

in_front : {X : Type 0} (xs ys : List X) (n : ℕ) (d : X) → n < length xs → slice_get (xs ++ ys) n ≡ Some d → slice_get xs n ≡ Some d
in_front [] ys n d less at = let bad : ⊥ = omega arith in absurd bad
in_front (x ∷ xs) ys zero d less at = at
in_front (x ∷ xs) ys (suc n) d less at = let tail : n < length xs = omega arith in in_front xs ys n d tail at

behind : {X : Type 0} (xs ys : List X) (n m : ℕ) (d : X) → n ≡ length xs + m → slice_get (xs ++ ys) n ≡ Some d → slice_get ys m ≡ Some d
behind [] ys n m d is at = let same : m ≡ n = omega arith in subst (λ k. slice_get ys k ≡ Some d) (sym same) at
behind (x ∷ xs) ys zero m d is at = let bad : ⊥ = omega arith in absurd bad
behind (x ∷ xs) ys (suc n) m d is at = let tail : n ≡ length xs + m = omega arith in behind xs ys n m d tail at

-- ---- of which so many are counted

pub counted_front : {X : Type 0} (xs ys : List X) (c n : ℕ) (d : X) → c ≡ counted (length xs) → n < c → slice_get (xs ++ ys) n ≡ Some d → slice_get xs n ≡ Some d
counted_front xs ys c n d is less at = let within : n < length xs = omega arith in in_front xs ys n d within at

pub counted_behind : {X : Type 0} (xs ys : List X) (c n m : ℕ) (d : X) → c ≡ counted (length xs) → n < 2 ^ 32 - 1 → c ≤ n → m ≡ n - c → slice_get (xs ++ ys) n ≡ Some d
    → slice_get ys m ≡ Some d
counted_behind xs ys c n m d is small most rest at =
    let split : n ≡ length xs + m = omega arith in
    behind xs ys n m d split at

-- ---- threads

pub applied_at : (ss : List Stack) (n : ℕ) (d : Deed) → slice_get (map (λ x. applies x.tid) ss) n ≡ Some d → (tid : List ℕ) × (nth_tid ss n ≡ Some tid) × (d ≡ applies tid)
applied_at [] n d at = absurd (cc)
applied_at (s ∷ ss) zero d at = (s.tid, refl, cc)
applied_at (s ∷ ss) (suc n) d at = applied_at ss n d at

-- ---- the object that may go

pub reaped_at : (o : Option ℕ) (ys : List Deed) (n : ℕ) (d : Deed) → n < one_if (is_some o) → slice_get (reaping o ++ ys) n ≡ Some d → (object : ℕ) × (o ≡ Some object) × (d ≡ reaps object)
reaped_at None ys n d less at = let bad : ⊥ = omega arith in absurd bad
reaped_at (Some object) ys zero d less at = (object, refl, cc)
reaped_at (Some object) ys (suc n) d less at = let bad : ⊥ = omega arith in absurd bad

pub reaped_behind : (o : Option ℕ) (ys : List Deed) (n m : ℕ) (d : Deed) → one_if (is_some o) ≤ n → m ≡ n - one_if (is_some o) → slice_get (reaping o ++ ys) n ≡ Some d → slice_get ys m ≡ Some d
reaped_behind None ys n m d most rest at = let same : m ≡ n = omega arith in subst (λ k. slice_get ys k ≡ Some d) (sym same) at
reaped_behind (Some object) ys zero m d most rest at = let bad : ⊥ = omega arith in absurd bad
reaped_behind (Some object) ys (suc n) m d most rest at = let same : m ≡ n = omega arith in subst (λ k. slice_get ys k ≡ Some d) (sym same) at

-- ---- what there is once at most

pub once_at : (b : Bool) (x : Deed) (ys : List Deed) (n : ℕ) (d : Deed) → n < one_if b → slice_get (plain.one_if b x ++ ys) n ≡ Some d → d ≡ x
once_at false x ys n d less at = let bad : ⊥ = omega arith in absurd bad
once_at true x ys zero d less at = cc
once_at true x ys (suc n) d less at = let bad : ⊥ = omega arith in absurd bad

pub once_behind : (b : Bool) (x : Deed) (ys : List Deed) (n m : ℕ) (d : Deed) → one_if b ≤ n → m ≡ n - one_if b → slice_get (plain.one_if b x ++ ys) n ≡ Some d → slice_get ys m ≡ Some d
once_behind false x ys n m d most rest at = let same : m ≡ n = omega arith in subst (λ k. slice_get ys k ≡ Some d) (sym same) at
once_behind true x ys zero m d most rest at = let bad : ⊥ = omega arith in absurd bad
once_behind true x ys (suc n) m d most rest at = let same : m ≡ n = omega arith in subst (λ k. slice_get ys k ≡ Some d) (sym same) at

pub last_at : (b : Bool) (x : Deed) (n : ℕ) (d : Deed) → slice_get (plain.one_if b x) n ≡ Some d → d ≡ x
last_at false x n d at = absurd (cc)
last_at true x zero d at = cc
last_at true x (suc n) d at = absurd (cc)

-- ---- all deeds of an end

module _ (g h : Setting) (one other : Told) (rs : List Run) (c : Choices) (are : AreChoices g h one other rs c) (d : Deed) where
  abbrev bytes_out : List Deed
  bytes_out = plain.one_if (bytes_wait g one.side) drains ++ (plain.one_if (may_carry other one) carries ++ plain.one_if (may_close h other one) closes)

  abbrev after_threads : List Deed
  after_threads = stepping g one.side 0 rs ++ (reaping (may_reap g one.side) ++ bytes_out)

  opened : (n : ℕ) → slice_get (deeds g h one other rs) n ≡ Some d → slice_get (applying one.side ++ after_threads) n ≡ Some d
  unfolding deeds
  opened n at = at

  pub of_thread : (n : ℕ) → n < c.ready → slice_get (deeds g h one other rs) n ≡ Some d → (tid : List ℕ) × (ready_at one.side n ≡ Some tid) × (d ≡ applies tid)
  of_thread n less at = applied_at _ n d (counted_front (applying one.side) after_threads c.ready n d are.ready less (opened n at))

  pub past_threads : (n m : ℕ) → n < 2 ^ 32 - 1 → c.ready ≤ n → m ≡ n - c.ready → slice_get (deeds g h one other rs) n ≡ Some d → slice_get after_threads m ≡ Some d
  past_threads n m small most rest at = counted_behind (applying one.side) after_threads c.ready n m d are.ready small most rest (opened n at)

  pub of_root : (n : ℕ) → n < c.moving → slice_get after_threads n ≡ Some d → slice_get (stepping g one.side 0 rs) n ≡ Some d
  of_root n less at = counted_front (stepping g one.side 0 rs) (reaping (may_reap g one.side) ++ bytes_out) c.moving n d are.moving less at

  pub past_roots : (n m : ℕ) → n < 2 ^ 32 - 1 → c.moving ≤ n → m ≡ n - c.moving → slice_get after_threads n ≡ Some d → slice_get (reaping (may_reap g one.side) ++ bytes_out) m ≡ Some d
  past_roots n m small most rest at = counted_behind (stepping g one.side 0 rs) (reaping (may_reap g one.side) ++ bytes_out) c.moving n m d are.moving small most rest at

  pub of_object : (n : ℕ) → n < one_if c.reaps → slice_get (reaping (may_reap g one.side) ++ bytes_out) n ≡ Some d → (object : ℕ) × (may_reap g one.side ≡ Some object) × (d ≡ reaps object)
  of_object n less at = reaped_at (may_reap g one.side) bytes_out n d (subst (λ b. n < one_if b) are.reaps less) at

  pub past_object : (n m : ℕ) → one_if c.reaps ≤ n → m ≡ n - one_if c.reaps → slice_get (reaping (may_reap g one.side) ++ bytes_out) n ≡ Some d → slice_get bytes_out m ≡ Some d
  past_object n m most rest at =
      reaped_behind (may_reap g one.side) bytes_out n m d (subst (λ b. one_if b ≤ n) are.reaps most) (subst (λ b. m ≡ n - one_if b) are.reaps rest) at

  pub of_bytes_out : (n : ℕ) → n < one_if c.drains → slice_get bytes_out n ≡ Some d → d ≡ drains
  of_bytes_out n less at = once_at (bytes_wait g one.side) drains _ n d (subst (λ b. n < one_if b) are.drains less) at

  pub past_bytes_out : (n m : ℕ) → one_if c.drains ≤ n → m ≡ n - one_if c.drains → slice_get bytes_out n ≡ Some d
      → slice_get (plain.one_if (may_carry other one) carries ++ plain.one_if (may_close h other one) closes) m ≡ Some d
  past_bytes_out n m most rest at =
      once_behind (bytes_wait g one.side) drains _ n m d (subst (λ b. one_if b ≤ n) are.drains most) (subst (λ b. m ≡ n - one_if b) are.drains rest) at

  pub of_bytes_in : (n : ℕ) → n < one_if c.carries → slice_get (plain.one_if (may_carry other one) carries ++ plain.one_if (may_close h other one) closes) n ≡ Some d → d ≡ carries
  of_bytes_in n less at = once_at (may_carry other one) carries _ n d (subst (λ b. n < one_if b) are.carries less) at

  pub of_the_end : (n m : ℕ) → one_if c.carries ≤ n → m ≡ n - one_if c.carries
      → slice_get (plain.one_if (may_carry other one) carries ++ plain.one_if (may_close h other one) closes) n ≡ Some d → d ≡ closes
  of_the_end n m most rest at =
      last_at (may_close h other one) closes m d
      (once_behind (may_carry other one) carries _ n m d (subst (λ b. one_if b ≤ n) are.carries most) (subst (λ b. m ≡ n - one_if b) are.carries rest) at)

  -- ---- the places behind one kind after the other

  pub at_object : (n n1 n2 : ℕ) → n < 2 ^ 32 - 1 → c.ready ≤ n → n1 ≡ n - c.ready → c.moving ≤ n1 → n2 ≡ n1 - c.moving → slice_get (deeds g h one other rs) n ≡ Some d
      → slice_get (reaping (may_reap g one.side) ++ bytes_out) n2 ≡ Some d
  at_object n n1 n2 small most rest more left at =
      let still : n1 < 2 ^ 32 - 1 = omega arith in
      past_roots n1 n2 still more left (past_threads n n1 small most rest at)

  pub at_bytes_out : (n n1 n2 n3 : ℕ) → n < 2 ^ 32 - 1 → c.ready ≤ n → n1 ≡ n - c.ready → c.moving ≤ n1 → n2 ≡ n1 - c.moving → one_if c.reaps ≤ n2 → n3 ≡ n2 - one_if c.reaps
      → slice_get (deeds g h one other rs) n ≡ Some d → slice_get bytes_out n3 ≡ Some d
  at_bytes_out n n1 n2 n3 small most rest more left past after at = past_object n2 n3 past after (at_object n n1 n2 small most rest more left at)

  pub at_bytes_in : (n n1 n2 n3 n4 : ℕ) → n < 2 ^ 32 - 1 → c.ready ≤ n → n1 ≡ n - c.ready → c.moving ≤ n1 → n2 ≡ n1 - c.moving → one_if c.reaps ≤ n2 → n3 ≡ n2 - one_if c.reaps
      → one_if c.drains ≤ n3 → n4 ≡ n3 - one_if c.drains → slice_get (deeds g h one other rs) n ≡ Some d
      → slice_get (plain.one_if (may_carry other one) carries ++ plain.one_if (may_close h other one) closes) n4 ≡ Some d
  at_bytes_in n n1 n2 n3 n4 small most rest more left past after out then_on at =
      past_bytes_out n3 n4 out then_on (at_bytes_out n n1 n2 n3 small most rest more left past after at)

-- ---- how many there are

all_append : {X : Type 0} (xs ys : List X) → length (xs ++ ys) ≡ length xs + length ys
all_append [] ys = omega arith
all_append (x ∷ xs) ys = let tail : length (xs ++ ys) ≡ length xs + length ys = all_append xs ys in omega arith

reaped_once : (o : Option ℕ) → length (reaping o) ≡ one_if (is_some o)
reaped_once None = refl
reaped_once (Some n) = refl

once : (b : Bool) (x : Deed) → length (plain.one_if b x) ≡ one_if b
once false x = refl
once true x = refl

module _ (g h : Setting) (one other : Told) (rs : List Run) where
  abbrev inwards : List Deed
  inwards = plain.one_if (may_carry other one) carries ++ plain.one_if (may_close h other one) closes

  abbrev outwards : List Deed
  outwards = plain.one_if (bytes_wait g one.side) drains ++ inwards

  abbrev of_objects : List Deed
  of_objects = reaping (may_reap g one.side) ++ outwards

  abbrev of_roots : List Deed
  of_roots = stepping g one.side 0 rs ++ of_objects

  -- so many as each kind has
  pub how_many : length (deeds g h one other rs)
      ≡ length (applying one.side) + (length (stepping g one.side 0 rs) + (one_if (is_some (may_reap g one.side))
      + (one_if (bytes_wait g one.side) + (one_if (may_carry other one) + one_if (may_close h other one)))))
  unfolding deeds
  how_many =
      let all : length (applying one.side ++ of_roots) ≡ length (applying one.side) + length of_roots = all_append (applying one.side) of_roots in
      let roots : length of_roots ≡ length (stepping g one.side 0 rs) + length of_objects = all_append (stepping g one.side 0 rs) of_objects in
      let objects : length of_objects ≡ length (reaping (may_reap g one.side)) + length outwards = all_append (reaping (may_reap g one.side)) outwards in
      let out : length outwards ≡ length (plain.one_if (bytes_wait g one.side) drains) + length inwards =
      all_append (plain.one_if (bytes_wait g one.side) drains) inwards in
      let ins : length inwards ≡ length (plain.one_if (may_carry other one) carries) + length (plain.one_if (may_close h other one) closes) =
      all_append (plain.one_if (may_carry other one) carries) (plain.one_if (may_close h other one) closes) in
      let object : length (reaping (may_reap g one.side)) ≡ one_if (is_some (may_reap g one.side)) = reaped_once (may_reap g one.side) in
      let drain : length (plain.one_if (bytes_wait g one.side) drains) ≡ one_if (bytes_wait g one.side) = once (bytes_wait g one.side) drains in
      let carry : length (plain.one_if (may_carry other one) carries) ≡ one_if (may_carry other one) = once (may_carry other one) carries in
      let close : length (plain.one_if (may_close h other one) closes) ≡ one_if (may_close h other one) = once (may_close h other one) closes in
      omega arith
