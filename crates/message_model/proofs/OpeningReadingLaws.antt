-- The openings of requests are read as they are spelled.
use Rattle.std.proofs.Common.{◌≡◌, ℕ, ◌+◌, ◌-◌, ◌<◌, ◌≤◌, not, nat_lt, Bool, true, false, List, [], ◌∷◌, ◌++◌, refl, sym, ap, subst, ◌∙◌, ◌⊎◌, inl, inr, arith}
use Rattle.std.proofs.lemmas.Bool.{ltb-true, ltb-false, le-ltb, lt-ltb, and_parts, not-true}
use Rattle.std.proofs.lemmas.List.{append-nil}
use Rattle.std.specs.Int.{w16, from_be_bytes}
use Rattle.urp_model.specs.Agreement.{Agrees, pair}
use Rattle.urp_model.specs.declared.reason.Reason.TheVariants.{BadFlags}
use Rattle.urp_model.proofs.Agreeing.{weaken, done_agrees, fail_agrees, choice_agrees, bind_agrees, map_agrees}
use Rattle.urp_model.proofs.PartLaws.{byte_agrees, number_agrees}
use Rattle.message_model.specs.Headers.{has, new_type_flag, new_oid_flag, new_tid_flag, wide_flag, more_flag, Opening}
use Rattle.message_model.specs.ReadingMessages.{function_at, answered_at, long_opening_at, short_opening, two_byte_opening_at, opening_at, opens_reply}
use Rattle.message_model.specs.SpellingMessages.{SpellsFunction, SpellsAnswered, SpellsOpening, short, two_bytes, long}

-- ---- first bytes

-- a first byte by the test
pub reply_marked : (first : ℕ) → opens_reply first ≡ true → (128 ≤ first) × (first < 192)
reply_marked first is =
    let parts = and_parts (not (nat_lt first 128)) (nat_lt first 192) is in
    (ltb-false first 128 (not-true (nat_lt first 128) parts.0), ltb-true first 192 parts.1)

pub marked_reply : (first : ℕ) → 128 ≤ first → first < 192 → opens_reply first ≡ true
marked_reply first high low = rw (le-ltb first 128 high) (lt-ltb first 192 low)

pub low_request : (first : ℕ) → first < 128 → opens_reply first ≡ false
low_request first low = rw (lt-ltb first 128 low) refl

pub high_request : (first : ℕ) → 192 ≤ first → opens_reply first ≡ false
high_request first high = rw (le-ltb first 128 (omega arith)) (le-ltb first 192 high)

-- what opens no reply and is not below 128 has both high bits
request_flags : (first : ℕ) → opens_reply first ≡ false → nat_lt first 128 ≡ false → 192 ≤ first
request_flags first is high = by_test (nat_lt first 192) refl
  where
    by_test : (b : Bool) → nat_lt first 192 ≡ b → 192 ≤ first
    by_test false past = ltb-false first 192 past
    by_test true low =
        let marked : opens_reply first ≡ true = marked_reply first (ltb-false first 128 high) (ltb-true first 192 low) in
        let bad : true ≡ false = sym marked ∙ is in
        absurd cc

-- ---- functions and second flags

pub function_agrees : (wide : Bool) → Agrees pair (function_at wide) (SpellsFunction wide)
unfolding function_at
function_agrees true = number_agrees w16
function_agrees false = byte_agrees

-- one byte of flags by its tests
flags_answer : (answered : Bool) (flags : ℕ) (b p q : List ℕ) → b ≡ p ++ q → p ≡ flags ∷ [] → q ≡ []
    → ((flags < 64) × (answered ≡ false)) ⊎ ((192 ≤ flags) × (answered ≡ true)) → SpellsAnswered true answered b
flags_answer answered flags b p q split one none says = (flags, split ∙ ap (λ z. p ++ z) none ∙ append-nil p ∙ one, says)

pub answered_agrees : (more : Bool) → Agrees pair (answered_at more) (SpellsAnswered more)
unfolding answered_at
answered_agrees false = weaken pair (done_agrees pair false) (λ x used t. (t.1, t.0)) (λ x used t. (t.1, t.0))
answered_agrees true =
    weaken pair
    (bind_agrees pair pair _ byte_agrees (λ flags. choice_agrees pair (nat_lt flags 64) (λ is. done_agrees pair false)
    (λ is. choice_agrees pair (nat_lt flags 192) (λ low. fail_agrees pair BadFlags) (λ high. done_agrees pair true))))
    (λ x used t. elim t.5 [
      | inl low ↦ flags_answer x t.0 used t.1 t.2 t.3 t.4 low.1.1 (inl (ltb-true t.0 64 low.0, low.1.0))
      | inr other ↦ elim other.1 [
        | inl bad ↦ absurd bad.1
        | inr high ↦ flags_answer x t.0 used t.1 t.2 t.3 t.4 high.1.1 (inr (ltb-false t.0 192 high.0, high.1.0))
      ]
    ])
    (λ x used t. elim t.2 [
      | inl low ↦ (t.0, t.0 ∷ [], [], t.1, refl, inl (lt-ltb t.0 64 low.0, (low.1, refl)))
      | inr high ↦ (t.0, t.0 ∷ [], [], t.1, refl, inr (le-ltb t.0 64 (omega (arith, high.0)), inr (le-ltb t.0 192 high.0, (high.1, refl))))
    ])

-- ---- openings

-- what stands behind the first byte of a short header of two bytes
abbrev pub SpellsSecond : ℕ → Opening → List ℕ → Type 0
SpellsSecond first o used = (second : ℕ) × (o ≡ short_opening (from_be_bytes w16 (first ∷ second ∷ []) - 16384)) × (used ≡ second ∷ [])

two_byte_agrees : (first : ℕ) → Agrees pair (two_byte_opening_at first) (SpellsSecond first)
unfolding two_byte_opening_at
two_byte_agrees first = map_agrees pair pair _ (λ second. short_opening (from_be_bytes w16 (first ∷ second ∷ []) - 16384)) byte_agrees (λ second rest. refl)

-- what stands behind the flags of a long header
pub record SpellsLong (flags : ℕ) (o : Opening) (used : List ℕ) : Type 0 where
  pub p : List ℕ
  pub q : List ℕ
  pub split : used ≡ p ++ q
  pub answers : SpellsAnswered (has more_flag flags) o.answered p
  pub calls : SpellsFunction (has wide_flag flags) o.function q
  pub types : o.new_type ≡ has new_type_flag flags
  pub oids : o.new_oid ≡ has new_oid_flag flags
  pub tids : o.new_tid ≡ has new_tid_flag flags

abbrev pub long_opening : ℕ → Bool → ℕ → Opening
long_opening flags answered function =
    record { function = function; answered = answered; new_type = has new_type_flag flags; new_oid = has new_oid_flag flags; new_tid = has new_tid_flag flags }

long_agrees : (flags : ℕ) → Agrees pair (long_opening_at flags) (SpellsLong flags)
unfolding long_opening_at
long_agrees flags =
    weaken pair
    (bind_agrees pair pair _ (answered_agrees (has more_flag flags))
    (λ answered. map_agrees pair pair _ (long_opening flags answered) (function_agrees (has wide_flag flags)) (λ function rest. refl)))
    (λ o used t.
    let f = t.5 in
    record {
      p = t.1;
      q = t.2;
      split = t.3;
      answers = subst (λ (z : Opening). SpellsAnswered (has more_flag flags) z.answered t.1) (sym f.1) t.4;
      calls = subst (λ (z : Opening). SpellsFunction (has wide_flag flags) z.function t.2) (sym f.1) f.2;
      types = ap (λ (z : Opening). z.new_type) f.1;
      oids = ap (λ (z : Opening). z.new_oid) f.1;
      tids = ap (λ (z : Opening). z.new_tid) f.1;
    })
    (λ o used h. (
      o.answered,
      h.p,
      h.q,
      h.split,
      h.answers,
      (
        o.function,
        (λ i. record { function = o.function; answered = o.answered; new_type = h.types i; new_oid = h.oids i; new_tid = h.tids i }),
        h.calls,
      ),
    ))

-- two bytes, which are 16,384 and the function
past_bound : (first second : ℕ) → 64 ≤ first → 16384 ≤ from_be_bytes w16 (first ∷ second ∷ [])
past_bound first second high = omega arith

function_less : (function n : ℕ) → function + 16384 ≡ n → function ≡ n - 16384
function_less function n is = omega arith

function_more : (n : ℕ) → 16384 ≤ n → n - 16384 + 16384 ≡ n
function_more n high = omega arith

-- what stands behind a first byte, by its tests
abbrev pub Behind : ℕ → Opening → List ℕ → Type 0
Behind first o used =
    ((nat_lt first 64 ≡ true) × ((o ≡ short_opening first) × (used ≡ [])))
    ⊎ ((nat_lt first 64 ≡ false) × (((nat_lt first 128 ≡ true) × SpellsSecond first o used) ⊎ ((nat_lt first 128 ≡ false) × SpellsLong first o used)))

pub opening_spells : (first : ℕ) → opens_reply first ≡ false → (o : Opening) (used : List ℕ) → Behind first o used → SpellsOpening o (first ∷ used)
opening_spells first is o used t = elim t [
  | inl low ↦ short first (ltb-true first 64 low.0) low.1.0 (ap (λ z. first ∷ z) low.1.1)
  | inr high ↦ elim high.1 [
    | inl two ↦
        let past : 64 ≤ first = ltb-false first 64 high.0 in
        let h = two.1 in
        two_bytes first h.0 (from_be_bytes w16 (first ∷ h.0 ∷ []) - 16384) past (ltb-true first 128 two.0)
        (function_more (from_be_bytes w16 (first ∷ h.0 ∷ [])) (past_bound first h.0 past)) h.1 (ap (λ z. first ∷ z) h.2)
    | inr flags ↦
        let h = flags.1 in
        long first h.p h.q (request_flags first is flags.0) (ap (λ z. first ∷ z) h.split) h.answers h.calls h.types h.oids h.tids
  ]
]

-- an opening has a first byte, which opens no reply
pub record Opened (o : Opening) (b : List ℕ) : Type 0 where
  pub first : ℕ
  pub used : List ℕ
  pub whole : b ≡ first ∷ used
  pub request : opens_reply first ≡ false
  pub behind : Behind first o used

pub spelled_opening : (o : Opening) (b : List ℕ) → SpellsOpening o b → Opened o b
spelled_opening o b (short function low is split) =
    record { first = function; used = []; whole = split; request = low_request function (omega arith); behind = inl (lt-ltb function 64 low, (is, refl)) }
spelled_opening o b (two_bytes first second function high low made is split) =
    let number : function ≡ from_be_bytes w16 (first ∷ second ∷ []) - 16384 = function_less function (from_be_bytes w16 (first ∷ second ∷ [])) made in
    record {
      first = first;
      used = second ∷ [];
      whole = split;
      request = low_request first low;
      behind = inr (le-ltb first 64 high, inl (lt-ltb first 128 low, (second, is ∙ ap short_opening number, refl)));
    }
spelled_opening o b (long flags p q high split answers calls types oids tids) = record {
  first = flags;
  used = p ++ q;
  whole = split;
  request = high_request flags high;
  behind = inr (
    le-ltb flags 64 (omega arith),
    inr (
      le-ltb flags 128 (omega arith),
      record { p = p; q = q; split = refl; answers = answers; calls = calls; types = types; oids = oids; tids = tids },
    ),
  );
}

-- what is spelled from a first byte stands behind it
spelled_behind : (first : ℕ) (o : Opening) (used : List ℕ) → SpellsOpening o (first ∷ used) → Behind first o used
spelled_behind first o used h =
    let s = spelled_opening o (first ∷ used) h in
    let one : s.first ≡ first = cc (s.whole) in
    let rest : s.used ≡ used = cc (s.whole) in
    subst (λ z. Behind first o z) rest (subst (λ z. Behind z o s.used) one s.behind)

pub opening_agrees : (first : ℕ) → opens_reply first ≡ false → Agrees pair (opening_at first) (λ o used. SpellsOpening o (first ∷ used))
unfolding opening_at
opening_agrees first is =
    weaken pair
    (choice_agrees pair (nat_lt first 64) (λ low. done_agrees pair (short_opening first))
    (λ high. choice_agrees pair (nat_lt first 128) (λ low. two_byte_agrees first) (λ past. long_agrees first)))
    (opening_spells first is)
    (spelled_behind first)
