-- What parameters take of arguments.
use Rattle.std.proofs.Common.{◌≡◌, ℕ, Bool, true, false, cond, List, [], ◌∷◌, ◌++◌, Option, None, Some, IsSome, refl, sym, ap, ◌∙◌, append_assoc, subst, ◌<◌, ◌≤◌, ◌+◌, suc, length, drop, get_or, map, drop-cons, add-one}
use Rattle.std.proofs.lemmas.List.{drop_all}
use Rattle.std.specs.Prelude.{◌||◌, is_some, IsTrue}
use Rattle.std.specs.Bool.{Decides}
use Rattle.uno_model.proofs.CodeLaws.{same_kind_told}
use Rattle.std.specs.Option.{option_or}
use Rattle.uno_model.specs.Codes.{same_kind}
use Rattle.uno_model.specs.Entities.{Entity, Field, Constructor}
use Rattle.uno_model.specs.Fits.{does_fit}
use Rattle.uno_model.specs.Kinds.{Kind}
use Rattle.uno_model.specs.Kinds as kd
use Rattle.uno_model.specs.Values.{Plain}
use Rattle.plan_model.specs.Frames.{Variable}
use Rattle.plan_model.specs.Services.{content_of, filled, all_filled, rest_filled, first_filled}
use Rattle.service_manager.specs.Arguments.{takes, taken, behind, all_taken, given, IsFirstTaking}

abbrev pub if_takes : Bool → Variable → Option Variable
if_takes b x = cond b (Some x) None

-- what a parameter is filled with is what it takes
of_kind : (reg : List Entity) (name : List ℕ) (arg : Plain) (k : Kind) → filled reg (record { name = name; kind = k }) arg ≡ if_takes (takes reg (record { name = name; kind = k }) arg) (taken (record { name = name; kind = k }) arg)
unfolding same_kind
of_kind reg name arg kd.void = refl
of_kind reg name arg kd.char = refl
of_kind reg name arg kd.boolean = refl
of_kind reg name arg kd.byte = refl
of_kind reg name arg kd.short = refl
of_kind reg name arg kd.unsigned_short = refl
of_kind reg name arg kd.long = refl
of_kind reg name arg kd.unsigned_long = refl
of_kind reg name arg kd.hyper = refl
of_kind reg name arg kd.unsigned_hyper = refl
of_kind reg name arg kd.str = refl
of_kind reg name arg kd.kind = refl
of_kind reg name arg kd.any = refl
of_kind reg name arg (kd.enum n) = refl
of_kind reg name arg (kd.struct n) = refl
of_kind reg name arg (kd.exception n) = refl
of_kind reg name arg (kd.interface n) = refl
of_kind reg name arg (kd.sequence inner) = refl

pub filled_is : (reg : List Entity) (p : Field) (arg : Plain) → filled reg p arg ≡ if_takes (takes reg p arg) (taken p arg)
filled_is reg p arg = of_kind reg p.name arg p.kind

-- one parameter more
abbrev pub joined : Option Variable → Option (List Variable) → Option (List Variable)
joined None others = None
joined (Some x) others = behind (x ∷ []) others

module _ (reg : List Entity) (p : Field) (ps : List Field) (rest : Option (List ℕ)) (arg : Plain) (args : List Plain) where
  by_cases : (o : Option Variable) → filled reg p arg ≡ o → (q : Option (List Variable)) → all_filled reg ps rest args ≡ q → all_filled reg (p ∷ ps) rest (arg ∷ args) ≡ joined o q
  unfolding all_filled
  by_cases None e q f = rw e refl
  by_cases (Some x) e None f = rw (e, f) refl
  by_cases (Some x) e (Some xs) f = rw (e, f) refl

  one_more : all_filled reg (p ∷ ps) rest (arg ∷ args) ≡ joined (if_takes (takes reg p arg) (taken p arg)) (all_filled reg ps rest args)
  one_more = by_cases _ (filled_is reg p arg) _ refl

  -- a parameter that does not take its argument
  pub not_taken : takes reg p arg ≡ false → is_some (all_filled reg (p ∷ ps) rest (arg ∷ args)) ≡ false
  not_taken fails = ap is_some (one_more ∙ ap (λ b. joined (if_takes b (taken p arg)) (all_filled reg ps rest args)) fails)

  -- one that takes it
  pub taken_first : takes reg p arg ≡ true → is_some (all_filled reg (p ∷ ps) rest (arg ∷ args)) ≡ is_some (all_filled reg ps rest args)
  taken_first takes = ap is_some (one_more ∙ ap (λ b. joined (if_takes b (taken p arg)) (all_filled reg ps rest args)) takes) ∙ as_many (all_filled reg ps rest args)
    where
      as_many : (o : Option (List Variable)) → is_some (behind (taken p arg ∷ []) o) ≡ is_some o
      as_many None = refl
      as_many (Some xs) = refl

-- where the arguments are taken, they are taken so
not_none : (o : Option (List Variable)) → o ≡ None → IsSome o → ⊥
not_none o is some = let bad : false ≡ true = subst IsSome is some in let clash : ⊥ = cc in clash

of_behind : (x : Variable) (o : Option (List Variable)) → IsSome (behind (x ∷ []) o) → IsSome o
of_behind x None some = some
of_behind x (Some xs) some = refl

pub all_taken_is : (reg : List Entity) (ps : List Field) (rest : Option (List ℕ)) (args : List Plain) → IsSome (all_filled reg ps rest args) → all_filled reg ps rest args ≡ all_taken ps rest args
unfolding all_filled
all_taken_is reg [] rest args some = refl
all_taken_is reg (p ∷ ps) rest [] some = refl
all_taken_is reg (p ∷ ps) rest (arg ∷ args) some =
    elim (takes reg p arg) as (λ b. all_filled reg (p ∷ ps) rest (arg ∷ args) ≡ joined (if_takes b (taken p arg)) (all_filled reg ps rest args) → all_filled reg (p ∷ ps) rest (arg ∷ args) ≡ behind (taken p arg ∷ []) (all_taken ps rest args)) [
      | true ↦ λ is. is ∙ ap (behind (taken p arg ∷ [])) (all_taken_is reg ps rest args (of_behind (taken p arg) _ (subst IsSome is some)))
      | false ↦ λ is. absurd (not_none _ is some)
    ] (one_more reg p ps rest arg args)

-- variables behind variables
pub behind_behind : (xs : List Variable) (x : Variable) (o : Option (List Variable)) → behind (xs ++ (x ∷ [])) o ≡ behind xs (behind (x ∷ []) o)
behind_behind xs x None = refl
behind_behind xs x (Some ys) = ap Some (append_assoc xs (x ∷ []) ys)

pub first_by : (reg : List Entity) (c : Constructor) (cs : List Constructor) (args : List Plain) → is_some (given reg c args) ≡ true → first_filled reg (c ∷ cs) args ≡ given reg c args
unfolding first_filled
first_by reg c cs args some = by (given reg c args) some
  where
    by : (o : Option (List Variable)) → is_some o ≡ true → option_or o (first_filled reg cs args) ≡ o
    by None bad = let bad : ⊥ = cc in absurd bad
    by (Some xs) some = refl

pub not_first : (reg : List Entity) (c : Constructor) (cs : List Constructor) (args : List Plain) → is_some (given reg c args) ≡ false → first_filled reg (c ∷ cs) args ≡ first_filled reg cs args
unfolding first_filled
not_first reg c cs args fails = by (given reg c args) fails
  where
    by : (o : Option (List Variable)) → is_some o ≡ false → option_or o (first_filled reg cs args) ≡ first_filled reg cs args
    by None fails = refl
    by (Some xs) bad = let bad : ⊥ = cc in absurd bad

-- ---- steps of loops

bare : (reg : List Entity) (p : Field) (ps : List Field) (rest : Option (List ℕ)) → false ≡ is_some (all_filled reg (p ∷ ps) rest [])
unfolding all_filled
bare reg p ps rest = refl

module _ (reg : List Entity) (p : Field) (ps left : List Field) (rest : Option (List ℕ)) (arg : Plain) (args now : List Plain) (front : left ≡ p ∷ ps) where
  -- a parameter that takes its argument leaves it to the others
  pub step_taken : now ≡ arg ∷ args → takes reg p arg ≡ true → is_some (all_filled reg ps rest args) ≡ is_some (all_filled reg left rest now)
  step_taken is takes = sym (taken_first reg p ps rest arg args takes) ∙ λ i. is_some (all_filled reg (sym front i) rest (sym is i))

  -- one that does not take it ends it
  pub step_not : now ≡ arg ∷ args → takes reg p arg ≡ false → false ≡ is_some (all_filled reg left rest now)
  step_not is fails = sym (not_taken reg p ps rest arg args fails) ∙ λ i. is_some (all_filled reg (sym front i) rest (sym is i))

-- and so does one without an argument
pub step_none : (reg : List Entity) (p : Field) (ps left : List Field) (rest : Option (List ℕ)) (now : List Plain) → left ≡ p ∷ ps → now ≡ [] → false ≡ is_some (all_filled reg left rest now)
step_none reg p ps left rest now front is = bare reg p ps rest ∙ λ i. is_some (all_filled reg (sym front i) rest (sym is i))

-- behind the last parameter
pub step_rest : (reg : List Entity) (left : List Field) (rest : Option (List ℕ)) (now : List Plain) → left ≡ [] → is_some (rest_filled rest now) ≡ is_some (all_filled reg left rest now)
unfolding all_filled
step_rest reg left rest now is = ap (λ left. is_some (all_filled reg left rest now)) (sym is)

-- ---- tests

pub any_is : (k : Kind) → k ≡ kd.any → same_kind k kd.any ≡ true
any_is k is = (same_kind_told k kd.any).1 is

pub any_not : (k : Kind) (b : Bool) → b ≡ false → (k ≡ kd.any → b ≡ true) → same_kind k kd.any ≡ false
any_not k b no_any is = by (same_kind k kd.any) refl
  where
    by : (r : Bool) → same_kind k kd.any ≡ r → same_kind k kd.any ≡ false
    by false e = e
    by true e = let holds = is ((same_kind_told k kd.any).0 e) in let bad : ⊥ = cc in absurd bad

-- the answer of a test is what another one of the same computes
pub same_answer : {P : Type 0} (r t : Bool) → (IsTrue r → P) → (P → IsTrue r) → Decides t P → r ≡ t
same_answer true true to from told = refl
same_answer true false to from told = let bad : false ≡ true = told.1 (to refl) in let clash : ⊥ = cc in absurd clash
same_answer false true to from told = from (told.0 refl)
same_answer false false to from told = refl

pub takes_any : (reg : List Entity) (p : Field) (arg : Plain) → p.kind ≡ kd.any → true ≡ takes reg p arg
takes_any reg p arg is = ap (λ b. b || does_fit reg (content_of arg) p.kind) (sym (any_is p.kind is))

pub takes_fitting : (reg : List Entity) (p : Field) (arg : Plain) (r : Bool) → same_kind p.kind kd.any ≡ false → r ≡ does_fit reg (content_of arg) p.kind → r ≡ takes reg p arg
takes_fitting reg p arg r other is = is ∙ ap (λ b. b || does_fit reg (content_of arg) p.kind) (sym other)

-- ---- places of loops

-- the first of what is left of a list, and the others
pub left_at : {A B : Type 0} (f : A → B) (xs ys : List A) (i : ℕ) (x : A) → ys ≡ xs → i < length ys → x ≡ get_or ys i x → map f (drop i xs) ≡ f x ∷ map f (drop (i + 1) xs)
left_at f xs ys i x same within is =
    ap (λ zs. map f (drop i zs)) (sym same) ∙ ap (map f) (drop-cons ys i x within) ∙ (λ k. f (sym is k) ∷ map f (drop (suc i) ys))
    ∙ (λ k. f x ∷ map f (drop (suc i) (same k))) ∙ ap (λ n. f x ∷ map f (drop n xs)) (sym (add-one i))

-- nothing is left behind the last one
pub left_none : {A B : Type 0} (f : A → B) (xs ys : List A) (i : ℕ) → ys ≡ xs → length ys ≤ i → map f (drop i xs) ≡ []
left_none f xs ys i same past = ap (λ zs. map f (drop i zs)) (sym same) ∙ ap (map f) (drop_all i ys past)

-- the constructor at a place is the first that takes the arguments, or is passed over
module _ (reg : List Entity) (c : Constructor) (cs left all : List Constructor) (args : List Plain) (front : left ≡ c ∷ cs) (so_far : first_filled reg left args ≡ first_filled reg all args) where
  pub is_first : true ≡ is_some (given reg c args) → IsFirstTaking reg all args c
  is_first takes = record { first = sym so_far ∙ ap (λ cs. first_filled reg cs args) front ∙ first_by reg c cs args (sym takes); some = sym takes }

  pub passed_over : false ≡ is_some (given reg c args) → first_filled reg cs args ≡ first_filled reg all args
  passed_over fails = sym (not_first reg c cs args (sym fails)) ∙ ap (λ cs. first_filled reg cs args) (sym front) ∙ so_far

pub none_first : (reg : List Entity) (left all : List Constructor) (args : List Plain) → left ≡ [] → first_filled reg left args ≡ first_filled reg all args → first_filled reg all args ≡ None
unfolding first_filled
none_first reg left all args none so_far = sym so_far ∙ ap (λ cs. first_filled reg cs args) none
