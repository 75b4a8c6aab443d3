-- Limits, told of numbers that are counted up to 2^64 - 1.
use Rattle.std.proofs.Common.{◌≡◌, ℕ, ◌+◌, ◌-◌, ◌^◌, ◌<◌, ◌≤◌, min, max, ◌||◌, Bool, true, false, List, length, Option, None, Some, drop, get_or, refl, sym, ap, ◌∙◌, arith, if◌then◌else◌}
use Rattle.std.proofs.lemmas.List.{drop_all}
use Rattle.plan_model.specs.Evaluation.{is_heavy, is_deep}
use Rattle.message_model.specs.Messages.{Answer, request, reply}
use Rattle.message_model.specs.Sayable.{message_weight, answer_weight, name_weight}
use Rattle.plan_model.specs.Asking.{Effect, Running, fails}
use Rattle.plan_model.specs.Calling.{is_full, sent}
use Rattle.plan_model.specs.Evaluation.{bounded}
use Rattle.plan_model.specs.Leaving.{sendable, answer_depth}
use Rattle.plan_model.specs.declared.runtime_cause.RuntimeCause.{RuntimeCause}
use Rattle.plan_model.specs.declared.runtime_cause.RuntimeCause.TheVariants.{Depth, TooLarge, TooDeep}
use Rattle.uno_model.specs.Entities.{Entity}
use Rattle.uno_model.specs.Values.{Plain, plains, depth, depth_in}
use Rattle.uno_model.specs.Weights.{weight}
use Rattle.behaviour.specs.Answers.{unless_caused, value_unless}
use Rattle.behaviour.specs.Calling.{unless, too_much}
use Rattle.uno_values.proofs.Parts.{part_at}
use Rattle.uno_values.specs.Values.{plain_of, plains_of}
use Rattle.uno_values.specs.declared.value.Value.{Value}

pub heavy_told : (n m : ℕ) → m ≡ min n (2 ^ 64 - 1) → is_heavy m ≡ is_heavy n
unfolding is_heavy
heavy_told n m told = grind (arith, told)

pub deep_told : (n m : ℕ) → m ≡ min n (2 ^ 64 - 1) → is_deep m ≡ is_deep n
unfolding is_deep
deep_told n m told = grind (arith, told)

deep_either : (a b : ℕ) → is_deep (max a b) ≡ (is_deep a || is_deep b)
unfolding is_deep
deep_either a b = grind arith

-- a value that is not too deep adds nothing
pub flat_more : (vs : List Value) (i : ℕ) (v : Value) (m : ℕ) (whole : Bool) → i < length vs → v ≡ get_or vs i v → m ≡ min (depth (plain_of v)) (2 ^ 64 - 1) → is_deep m ≡ false
    → is_deep (depth_in (plains_of (drop i vs))) ≡ whole → is_deep (depth_in (plains_of (drop (i + 1) vs))) ≡ whole
unfolding depth_in
flat_more vs i v m whole within is told flat all =
    let here = rw (part_at vs i v within is, deep_either) at all in
    let low : is_deep (depth (plain_of v)) ≡ false = sym (deep_told _ _ told) ∙ flat in
    rw low at here

-- one that is too deep is enough
pub deep_here : (vs : List Value) (i : ℕ) (v : Value) (m : ℕ) (whole : Bool) → i < length vs → v ≡ get_or vs i v → m ≡ min (depth (plain_of v)) (2 ^ 64 - 1) → is_deep m ≡ true
    → is_deep (depth_in (plains_of (drop i vs))) ≡ whole → true ≡ whole
unfolding depth_in
deep_here vs i v m whole within is told deep all =
    let here = rw (part_at vs i v within is, deep_either) at all in
    let high : is_deep (depth (plain_of v)) ≡ true = sym (deep_told _ _ told) ∙ deep in
    rw high at here

pub none_deep : (vs : List Value) (i : ℕ) (whole : Bool) → length vs ≤ i → is_deep (depth_in (plains_of (drop i vs))) ≡ whole → false ≡ whole
unfolding depth_in is_deep
none_deep vs i whole past all = rw (drop_all i vs past) at all

-- the deepest of a value and others
pub deep_answer : (a b : ℕ) → is_deep a ≡ true → true ≡ is_deep (max a b)
deep_answer a b deep = sym (deep_either a b ∙ ap (λ c. c || is_deep b) deep)

pub flat_answer : (a b : ℕ) (c : Bool) → is_deep a ≡ false → c ≡ is_deep b → c ≡ is_deep (max a b)
flat_answer a b c flat told = told ∙ sym (deep_either a b ∙ ap (λ d. d || is_deep b) flat)

-- what a test of a number that is counted up to 2^64 - 1 says of the number
heavy_is : (n m : ℕ) (b c : Bool) → m ≡ min n (2 ^ 64 - 1) → b ≡ is_heavy m → b ≡ c → is_heavy n ≡ c
heavy_is n m b c told asked is = sym (heavy_told n m told) ∙ (sym asked ∙ is)

pub deep_is : (n m : ℕ) (b c : Bool) → m ≡ min n (2 ^ 64 - 1) → b ≡ is_deep m → b ≡ c → is_deep n ≡ c
deep_is n m b c told asked is = sym (deep_told n m told) ∙ (sym asked ∙ is)

-- ---- a value

pub value_too_large : (x : Plain) (m : ℕ) (b : Bool) → m ≡ min (weight x) (2 ^ 64 - 1) → b ≡ is_heavy m → b ≡ true → bounded x ≡ value_unless (Some TooLarge) x
value_too_large x m b told asked is = rw (heavy_is (weight x) m b true told asked is) refl

pub value_too_deep : (x : Plain) (m d : ℕ) (b e : Bool) → m ≡ min (weight x) (2 ^ 64 - 1) → b ≡ is_heavy m → b ≡ false → d ≡ min (depth x) (2 ^ 64 - 1) → e ≡ is_deep d → e ≡ true
    → bounded x ≡ value_unless (Some TooDeep) x
value_too_deep x m d b e told asked is told' asked' is' = rw (heavy_is (weight x) m b false told asked is, deep_is (depth x) d e true told' asked' is') refl

pub value_within : (x : Plain) (m d : ℕ) (b e : Bool) → m ≡ min (weight x) (2 ^ 64 - 1) → b ≡ is_heavy m → b ≡ false → d ≡ min (depth x) (2 ^ 64 - 1) → e ≡ is_deep d → e ≡ false
    → bounded x ≡ value_unless None x
value_within x m d b e told asked is told' asked' is' = rw (heavy_is (weight x) m b false told asked is, deep_is (depth x) d e false told' asked' is') refl

-- ---- an answer

pub answer_too_large : (tid face : List ℕ) (number : ℕ) (a : Answer) (m : ℕ) (b : Bool) → m ≡ min (message_weight (reply tid face number a)) (2 ^ 64 - 1) → b ≡ is_heavy m → b ≡ true
    → sendable tid face number a ≡ unless_caused (Some TooLarge) a
answer_too_large tid face number a m b told asked is = rw (heavy_is (message_weight (reply tid face number a)) m b true told asked is) refl

pub answer_too_deep : (tid face : List ℕ) (number : ℕ) (a : Answer) (m : ℕ) (b e : Bool) → m ≡ min (message_weight (reply tid face number a)) (2 ^ 64 - 1) → b ≡ is_heavy m → b ≡ false
    → e ≡ is_deep (answer_depth a) → e ≡ true → sendable tid face number a ≡ unless_caused (Some TooDeep) a
answer_too_deep tid face number a m b e told asked is asked' is' =
    let deep : is_deep (answer_depth a) ≡ true = sym asked' ∙ is' in
    rw (heavy_is (message_weight (reply tid face number a)) m b false told asked is, deep) refl

pub answer_within : (tid face : List ℕ) (number : ℕ) (a : Answer) (m : ℕ) (b e : Bool) → m ≡ min (message_weight (reply tid face number a)) (2 ^ 64 - 1) → b ≡ is_heavy m → b ≡ false
    → e ≡ is_deep (answer_depth a) → e ≡ false → sendable tid face number a ≡ unless_caused None a
answer_within tid face number a m b e told asked is asked' is' =
    let flat : is_deep (answer_depth a) ≡ false = sym asked' ∙ is' in
    rw (heavy_is (message_weight (reply tid face number a)) m b false told asked is, flat) refl

-- the weight of a reply, by that of its answer
pub reply_counted : (tid face : List ℕ) (number : ℕ) (a : Answer) (m n : ℕ) → n ≡ min (answer_weight a) (2 ^ 64 - 1) → m ≡ min (1 + (name_weight tid + n)) (2 ^ 64 - 1)
    → m ≡ min (message_weight (reply tid face number a)) (2 ^ 64 - 1)
reply_counted tid face number a m n told is = counted (name_weight tid) (answer_weight a) m n told is
  where
    counted : (k w m n : ℕ) → n ≡ min w (2 ^ 64 - 1) → m ≡ min (1 + (k + n)) (2 ^ 64 - 1) → m ≡ min (1 + (k + w)) (2 ^ 64 - 1)
    counted k w m n told is = omega (arith, told, is)

-- ---- a call

module _ (reg : List Entity) (r : Running) (oid face : List ℕ) (number : ℕ) (args : List Plain) (e : Effect) where
  pub call_too_far : (b : Bool) → b ≡ is_full r.depth → b ≡ true → sent reg r oid face number args e ≡ unless reg r (Some Depth) e
  call_too_far b asked is = let full : is_full r.depth ≡ true = sym asked ∙ is in rw full refl

  by_tests : (heavy deep : Bool) → (if heavy then fails reg r TooLarge else (if deep then fails reg r TooDeep else e)) ≡ unless reg r (if heavy then Some TooLarge else (if deep then Some TooDeep else None)) e
  by_tests true deep = refl
  by_tests false true = refl
  by_tests false false = refl

  pub call_unless : (b : Bool) (o : Option RuntimeCause) → b ≡ is_full r.depth → b ≡ false → o ≡ too_much r.tid oid face number args → sent reg r oid face number args e ≡ unless reg r o e
  call_unless b o asked is why =
      let room : is_full r.depth ≡ false = sym asked ∙ is in
      rw (room, why) (by_tests (is_heavy (message_weight (request r.tid oid face number args))) (is_deep (depth_in (plains args))))

-- a request is too much where it weighs too much, or else where a value is nested too deep
module _ (tid oid face : List ℕ) (number : ℕ) (args : List Plain) where
  pub request_too_large : (c : Bool) (m : ℕ) → m ≡ min (message_weight (request tid oid face number args)) (2 ^ 64 - 1) → c ≡ is_heavy m → c ≡ true → Some TooLarge ≡ too_much tid oid face number args
  request_too_large c m told asked is = rw (heavy_is (message_weight (request tid oid face number args)) m c true told asked is) refl

  pub request_too_deep : (c d : Bool) (m : ℕ) → m ≡ min (message_weight (request tid oid face number args)) (2 ^ 64 - 1) → c ≡ is_heavy m → c ≡ false
      → d ≡ is_deep (depth_in (plains args)) → d ≡ true → Some TooDeep ≡ too_much tid oid face number args
  request_too_deep c d m told asked is asked' is' =
      let deep : is_deep (depth_in (plains args)) ≡ true = sym asked' ∙ is' in
      rw (heavy_is (message_weight (request tid oid face number args)) m c false told asked is, deep) refl

  pub request_within : (c d : Bool) (m : ℕ) → m ≡ min (message_weight (request tid oid face number args)) (2 ^ 64 - 1) → c ≡ is_heavy m → c ≡ false
      → d ≡ is_deep (depth_in (plains args)) → d ≡ false → None ≡ too_much tid oid face number args
  request_within c d m told asked is asked' is' =
      let flat : is_deep (depth_in (plains args)) ≡ false = sym asked' ∙ is' in
      rw (heavy_is (message_weight (request tid oid face number args)) m c false told asked is, flat) refl
