-- The parts are read as they are spelled.
use Rattle.std.proofs.Common.{◌≡◌, ℕ, ◌<◌, ◌≤◌, Bool, true, false, ◌==◌, nat_lt, List, [], ◌∷◌, ◌++◌, length, take, drop}
use Rattle.std.proofs.Common.{Result, Ok, Err, if◌then◌else◌, refl, sym, ap, subst, ◌∙◌, ◌⊎◌, inl, inr, arith}
use Rattle.std.proofs.lemmas.Bool.{ltb-true, ltb-false, le-ltb, lt-ltb, eqb-true, eqb-false, eq-eqb, ne_eqb, or_cases, or_left, or_right}
use Rattle.std.proofs.lemmas.List.{take_at, drop_at, take-append-drop, append-nil, length-append, length-take}
use Rattle.std.proofs.lemmas.Str.{IsUtf8-from_is_utf8, is_utf8-from_IsUtf8}
use Rattle.std.specs.Int.{Width, w16, w32, byte_len, from_be_bytes}
use Rattle.std.specs.Str.{is_utf8}
use Rattle.urp_model.specs.Parts.{◌>>=◌, part, byte_at, number_at, length_at, raw_at, text_at, name_at, text_name_at, is_slot, slot_at}
use Rattle.urp_model.specs.Spelling.{IsNumber, IsLength, IsRaw, IsText, IsTextName, IsSlot}
use Rattle.urp_model.specs.declared.fault.Fault.{Fault}
use Rattle.urp_model.specs.declared.fault.Fault.TheVariants.{Short, Bad}
use Rattle.urp_model.specs.declared.reason.Reason.{Reason}
use Rattle.urp_model.specs.declared.reason.Reason.TheVariants.{LongName, BadText, BadSlot}
use Rattle.urp_model.specs.Agreement.{Agrees, pair}
use Rattle.urp_model.proofs.Agreeing.{weaken, done_agrees, choice_agrees, fail_agrees, if_agrees, bind_agrees}

-- a part that is read is the front of the bytes
part_found : (n : ℕ) (bytes : List ℕ) (a : List ℕ × List ℕ) → part n bytes ≡ Ok a → (n ≤ length bytes) × (a ≡ (take n bytes, drop n bytes))
part_found n bytes a = by_test (nat_lt (length bytes) n) refl
  where
    by_test : (b : Bool) → nat_lt (length bytes) n ≡ b → (if b then Err Short else Ok (take n bytes, drop n bytes)) ≡ Ok a → (n ≤ length bytes) × (a ≡ (take n bytes, drop n bytes))
    by_test true short is = absurd cc
    by_test false long is = (ltb-false _ _ long, cc)

part_steady : (n : ℕ) (bytes more : List ℕ) (e : Reason) → part n bytes ≡ Err (Bad e) → part n (bytes ++ more) ≡ Err (Bad e)
part_steady n bytes more e = by_test (nat_lt (length bytes) n)
  where
    found : Result (List ℕ × List ℕ) Fault
    found = Ok (take n bytes, drop n bytes)

    by_test : (b : Bool) → (if b then Err Short else found) ≡ Err (Bad e) → part n (bytes ++ more) ≡ Err (Bad e)
    by_test true is = absurd cc
    by_test false is = absurd cc

-- a part that is there is read
part_there : (x rest : List ℕ) → part (length x) (x ++ rest) ≡ Ok (x, rest)
part_there x rest =
    let there : length x ≤ length (x ++ rest) = omega (arith, length-append x rest) in
    rw (le-ltb (length (x ++ rest)) (length x) there, take_at x rest (length x) refl, drop_at x rest (length x) refl) refl

pub part_agrees : (n : ℕ) → Agrees pair (part n) (λ x used. (used ≡ x) × (length x ≡ n))
part_agrees n = record {
  sound = λ bytes a is.
      let f = part_found n bytes a is in
      (take n bytes, take n bytes, drop n bytes, f.1, sym (take-append-drop n bytes), (refl, omega (arith, length-take n bytes, f.0)));
  complete = λ x used rest p. rw (p.0, sym p.1) (part_there x rest);
  steady = part_steady n;
}

pub byte_agrees : Agrees pair byte_at (λ x used. used ≡ x ∷ [])
unfolding byte_at
byte_agrees = record { sound = found; complete = λ x used rest is. rw is refl; steady = steady }
  where
    found : (bytes : List ℕ) (a : ℕ × List ℕ) → byte_at bytes ≡ Ok a → (x : ℕ) × (used : List ℕ) × (rest : List ℕ) × (a ≡ (x, rest)) × (bytes ≡ used ++ rest) × (used ≡ x ∷ [])
    found [] a is = absurd cc
    found (b ∷ bytes) a is = (b, b ∷ [], bytes, cc, refl, refl)

    steady : (bytes more : List ℕ) (e : Reason) → byte_at bytes ≡ Err (Bad e) → byte_at (bytes ++ more) ≡ Err (Bad e)
    steady [] more e is = absurd cc
    steady (b ∷ bytes) more e is = absurd cc

pub number_agrees : (w : Width) → Agrees pair (number_at w) (λ n used. IsNumber w used n)
unfolding number_at
number_agrees w =
    weaken pair (bind_agrees pair pair _ (part_agrees (byte_len w)) (λ raw. done_agrees pair (from_be_bytes w raw)))
    (λ n used t. let whole : used ≡ t.0 = t.3 ∙ ap (λ z. t.1 ++ z) t.5.1 ∙ append-nil t.1 ∙ t.4.0 in (ap length whole ∙ t.4.1, t.5.0 ∙ ap (from_be_bytes w) (sym whole)))
    (λ n used is. (used, used, [], sym (append-nil used), (refl, is.0), (is.1, refl)))

-- a compressed number, whose first byte is FF or the number
long_form : (n b : ℕ) (used p q : List ℕ) → used ≡ p ++ q → p ≡ b ∷ [] → (b == 255) ≡ true → IsNumber w32 q n → IsLength used n
long_form n b used p q split first test is = let is_mark : b ≡ 255 = eqb-true b 255 test in inr (q, rw (split, first, is_mark) refl, is)

short_form : (n b : ℕ) (used p q : List ℕ) → used ≡ p ++ q → p ≡ b ∷ [] → (b == 255) ≡ false → n ≡ b → q ≡ [] → IsLength used n
short_form n b used p q split first test is none = inl (λ mark. eqb-false b 255 test (sym is ∙ mark), rw (split, first, none, is) refl)

pub length_agrees : Agrees pair length_at (λ n used. IsLength used n)
unfolding length_at
length_agrees =
    weaken pair (bind_agrees pair pair _ byte_agrees (λ b. choice_agrees pair (b == 255) (λ is. number_agrees w32) (λ is. done_agrees pair b)))
    (λ n used t. elim t.5 [
      | inl long ↦ long_form n t.0 used t.1 t.2 t.3 t.4 long.0 long.1
      | inr short ↦ short_form n t.0 used t.1 t.2 t.3 t.4 short.0 short.1.0 short.1.1
    ])
    (λ n used is. elim is [
      | inl short ↦ (n, n ∷ [], [], short.1, refl, inr (ne_eqb n 255 short.0, (refl, refl)))
      | inr long ↦ (255, 255 ∷ [], long.0, long.1, refl, inl (refl, long.2))
    ])

pub raw_agrees : Agrees pair raw_at (λ raw used. IsRaw used raw)
unfolding raw_at
raw_agrees =
    weaken pair (bind_agrees pair pair _ length_agrees (λ n. part_agrees n))
    (λ raw used t. (t.1, t.3 ∙ ap (λ z. t.1 ++ z) t.5.0, subst (IsLength t.1) (sym t.5.1) t.4))
    (λ raw used is. (length raw, is.0, raw, is.1, is.2, (refl, refl)))

-- what is read and kept as it is, where a test holds
kept : {X : Type 0} (P : X → List ℕ → Type 0) (test : X → Bool) (reason : Reason) {r : List ℕ → Result (X × List ℕ) Fault} → Agrees pair r P
    → Agrees pair (λ bytes. r bytes >>= λ x. if test x.0 then Ok (x.0, x.1) else Err (Bad reason)) (λ x used. P x used × (test x ≡ true))
kept P test reason g =
    weaken pair (bind_agrees pair pair _ g (λ x. if_agrees pair (test x) reason (λ is. done_agrees pair x)))
    (λ x used t. (subst (λ z. P z used) (sym t.5.1.0) (subst (P t.0) (sym (t.3 ∙ ap (λ z. t.1 ++ z) t.5.1.1 ∙ append-nil t.1)) t.4), ap test t.5.1.0 ∙ t.5.0))
    (λ x used is. (x, used, [], sym (append-nil used), is.0, (is.1, (refl, refl))))

pub text_agrees : Agrees pair text_at (λ text used. IsText used text)
unfolding text_at
text_agrees =
    weaken pair (kept (λ raw used. IsRaw used raw) is_utf8 BadText raw_agrees)
    (λ text used t. (t.0, IsUtf8-from_is_utf8 text t.1)) (λ text used is. (is.0, is_utf8-from_IsUtf8 text is.1))

pub name_agrees : (limit : ℕ) → Agrees pair (name_at limit) (λ name used. IsRaw used name × (length name ≤ limit))
unfolding name_at
name_agrees limit =
    weaken pair (bind_agrees pair pair _ length_agrees (λ n. choice_agrees pair (nat_lt limit n) (λ is. fail_agrees pair LongName) (λ is. part_agrees n)))
    (λ name used t. elim t.5 [
      | inl long ↦ absurd long.1
      | inr there ↦ ((t.1, t.3 ∙ ap (λ z. t.1 ++ z) there.1.0, subst (IsLength t.1) (sym there.1.1) t.4), subst (λ (n : ℕ). n ≤ limit) (sym there.1.1) (ltb-false limit t.0 there.0))
    ])
    (λ name used is. (length name, is.0.0, name, is.0.1, is.0.2, inr (le-ltb limit (length name) is.1, (refl, refl))))

pub text_name_agrees : Agrees pair text_name_at (λ name used. IsTextName used name)
unfolding text_name_at
text_name_agrees =
    weaken pair (kept (λ name used. IsRaw used name × (length name ≤ 4096)) is_utf8 BadText (name_agrees 4096))
    (λ name used t. ((t.0.0, IsUtf8-from_is_utf8 name t.1), t.0.1)) (λ name used is. ((is.0.0, is.1), is_utf8-from_IsUtf8 name is.0.1))

-- a slot by the test
pub slot_test : (slot : ℕ) → is_slot slot ≡ true → (slot < 256) ⊎ (slot ≡ 65535)
slot_test slot is = elim (or_cases (nat_lt slot 256) (slot == 65535) is) [ inl low ↦ inl (ltb-true slot 256 low) | inr none ↦ inr (eqb-true slot 65535 none) ]

pub slot_tested : (slot : ℕ) → (slot < 256) ⊎ (slot ≡ 65535) → is_slot slot ≡ true
slot_tested slot is = elim is [
  | inl low ↦ or_left (nat_lt slot 256) (slot == 65535) (lt-ltb slot 256 low)
  | inr none ↦ or_right (nat_lt slot 256) (slot == 65535) (eq-eqb slot 65535 none)
]

pub slot_agrees : Agrees pair slot_at (λ slot used. IsSlot used slot)
unfolding slot_at
slot_agrees =
    weaken pair (kept (λ slot used. IsNumber w16 used slot) is_slot BadSlot (number_agrees w16))
    (λ slot used t. (t.0, slot_test slot t.1)) (λ slot used is. (is.0, slot_tested slot is.1))
