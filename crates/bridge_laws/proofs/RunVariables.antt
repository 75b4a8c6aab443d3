-- The variables of a run: each is of the type that its name has in the statements so far, and so are what they give.
use Rattle.std.proofs.Common.{◌≡◌, refl, sym, ap, ◌∙◌, subst, ℕ, Bool, true, false, not, ◌||◌, if◌then◌else◌, List, [], ◌∷◌, ◌++◌, Option, None, Some, option_map, ◌⊎◌, inl, inr}
use Rattle.std.specs.List.{list_all, filter, flat_map}
use Rattle.std.specs.Str.{bytes_eq}
use Rattle.std.proofs.lemmas.Bool.{and_parts, and_from, true≢false}
use Rattle.std.proofs.lemmas.List.Concat.{flat_map-cons}
use Rattle.std.proofs.lemmas.Slice.Eq.{bytes_eq-Decides}
use Rattle.uno_model.specs.BuiltIn.{x_interface_name}
use Rattle.uno_model.specs.Entities.{Entity, Param}
use Rattle.uno_model.specs.Fits.{Fits}
use Rattle.uno_model.specs.Kinds.{Kind}
use Rattle.uno_model.specs.Kinds as kd
use Rattle.uno_model.specs.Values.{Plain, Plains}
use Rattle.uno_model.specs.Values as v
use Rattle.uno_model.proofs.Options.{same_some, none_some}
use Rattle.plan_model.specs.Calling.{given_values}
use Rattle.plan_model.specs.Contexts.{Scoped}
use Rattle.plan_model.specs.Evaluation.{Scene, value_under, value_of_word, value_of, values_of, bytes_of, both_values}
use Rattle.plan_model.specs.Expressions.{Word, variable, field, own, Expression, Expressions, constant, word, operation, any, tuple, list, bytes, none, more, Argument, into, out, both}
use Rattle.plan_model.specs.Frames.{Variable}
use Rattle.plan_model.specs.Holdings.{put, without, with_variable}
use Rattle.plan_typing.specs.Scenes.{VariablesFit}
use Rattle.plan_typing.specs.Statements.{ArgumentFits, ArgumentsFit}
use Rattle.plan_typing.specs.Types.{Types, variable_type, field_type, word_type, HasType, HaveTypes, AllHaveType}
use Rattle.plan_typing.proofs.FramePuts.{added_fits, without_fits, found_before}
use Rattle.plan_typing.proofs.ValueWords.{found_kind, found_kind_is}
use Rattle.bridge_model.specs.RootRuns.{word_names, names_in, names_in_all, argument_names, is_there}
use Rattle.bridge_laws.specs.RootStatements.{has_value, have_values, may_be_given}

abbrev pub types_of : List Scoped → Types
types_of vs = record { variables = vs; fields = []; own = x_interface_name }

-- ---- values that are there

-- what there is of an option
pub record There {X : Type 0} (o : Option X) : Type 0 where
  pub it : X
  pub is : o ≡ Some it

mapped_there : {X Y : Type 0} (f : X → Y) (o : Option X) → There o → There (option_map f o)
mapped_there f o there = record { it = f there.it; is = ap (option_map f) there.is }

both_there_too : {X Y Z : Type 0} (a : Option X) (b : Option Y) (f : X → Y → Z) → There a → There b → There (both_values a b (λ x y. Some (f x y)))
both_there_too a b f x y = record { it = f x.it y.it; is = rw (x.is, y.is) refl }

module _ (s : Scene) where
  mutual
    unfolding value_of values_of has_value have_values

    value_there : (a : Expression) → has_value a ≡ true → There (value_of s a)
    value_there (constant x) has = record { it = x; is = refl }
    value_there (word w) has = record { it = value_of_word s w; is = refl }
    value_there (operation op a b) has = absurd (cc)
    value_there (any k a) has = mapped_there (v.any k) (value_of s a) (value_there a has)
    value_there (tuple name es) has = mapped_there (v.tuple name) (values_of s es) (values_there es has)
    value_there (list k es) has = mapped_there (v.list k) (values_of s es) (values_there es has)
    value_there (bytes es) has = mapped_there (λ xs. v.bytes (bytes_of xs)) (values_of s es) (values_there es has)

    values_there : (es : Expressions) → have_values es ≡ true → There (values_of s es)
    values_there none has = record { it = v.none; is = refl }
    values_there (more a es) has =
        let parts = and_parts (has_value a) (have_values es) has in
        both_there_too (value_of s a) (values_of s es) (λ x xs. v.more x xs) (value_there a parts.0) (values_there es parts.1)

  into_there : (a : Expression) (args : List Argument) → There (value_of s a) → There (given_values s args) → There (given_values s (into a ∷ args))
  unfolding given_values
  into_there a args x xs = record { it = x.it ∷ xs.it; is = rw (x.is, xs.is) refl }

  pub given_there : (args : List Argument) → list_all may_be_given args ≡ true → There (given_values s args)
  unfolding given_values
  given_there [] has = record { it = []; is = refl }
  given_there (into a ∷ args) has = let parts = and_parts (has_value a) (list_all may_be_given args) has in into_there a args (value_there a parts.0) (given_there args parts.1)
  given_there (out name ∷ args) has = given_there args has
  given_there (both name ∷ args) has = mapped_there (λ xs. value_under name s.variables ∷ xs) (given_values s args) (given_there args has)

-- ---- types of the variables that are there

-- what is found among these is found among those
abbrev pub AreOf : List Scoped → List Scoped → Type 0
AreOf ps vs = (name : List ℕ) (k : Kind) → found_kind name ps ≡ Some k → found_kind name vs ≡ Some k

pub record VariablesAre (reg : List Entity) (xs : List Variable) (vs : List Scoped) : Type 0 where
  pub present : List Scoped
  pub fit : VariablesFit reg xs present
  pub are : AreOf present vs

or_second : (b c : Bool) → b ≡ false → (b || c) ≡ true → c ≡ true
or_second true c is at = absurd (cc)
or_second false c is at = at

-- a variable that is there has a type
found_there : (reg : List Entity) (name : List ℕ) (xs : List Variable) (ps : List Scoped) → VariablesFit reg xs ps → is_there xs name ≡ true → There (found_kind name ps)
unfolding VariablesFit
found_there reg name [] ps fit there = absurd (cc)
found_there reg name (x ∷ xs) [] fit there = absurd fit
found_there reg name (x ∷ xs) (p ∷ ps) fit there = by_test (λ rest. found_there reg name xs ps fit.2 rest) (bytes_eq name p.name) refl
  where
    by_test : (is_there xs name ≡ true → There (found_kind name ps)) → (b : Bool) → bytes_eq name p.name ≡ b → There (found_kind name (p ∷ ps))
    by_test later true is = record { it = p.kind; is = found_kind_is name p ps true is }
    by_test later false is =
        let here : bytes_eq name x.name ≡ false = rw fit.0 is in
        let found = later (or_second (bytes_eq name x.name) (is_there xs name) here there) in
        record { it = found.it; is = found_kind_is name p ps false is ∙ found.is }

-- so it has the type that its name has
pub known_there : (reg : List Entity) (xs : List Variable) (vs : List Scoped) (all : VariablesAre reg xs vs) (name : List ℕ) (k : Kind) → is_there xs name ≡ true → found_kind name vs ≡ Some k
    → found_kind name all.present ≡ Some k
known_there reg xs vs all name k there is =
    let found = found_there reg name xs all.present all.fit there in
    let same : found.it ≡ k = same_some (sym (all.are name found.it found.is) ∙ is) in found.is ∙ ap Some same

pub both_all : {X : Type 0} (test : X → Bool) (xs ys : List X) → list_all test (xs ++ ys) ≡ true → (list_all test xs ≡ true) × (list_all test ys ≡ true)
both_all test [] ys all = (refl, all)
both_all test (x ∷ xs) ys all =
    let parts = and_parts (test x) (list_all test (xs ++ ys)) all in
    let later = both_all test xs ys parts.1 in (and_from (test x) (list_all test xs) parts.0 later.0, later.1)

module _ (reg : List Entity) (xs : List Variable) (vs : List Scoped) (all : VariablesAre reg xs vs) where
  abbrev AllThere : List (List ℕ) → Type 0
  AllThere names = list_all (is_there xs) names ≡ true

  name_typed : (name : List ℕ) (k : Kind) → AllThere (name ∷ []) → variable_type (types_of vs) name ≡ Some k → variable_type (types_of all.present) name ≡ Some k
  unfolding variable_type
  name_typed name k there is = known_there reg xs vs all name k (and_parts (is_there xs name) true there).0 is

  pub word_typed : (w : Word) (k : Kind) → AllThere (word_names w) → word_type (types_of vs) w ≡ Some k → word_type (types_of all.present) w ≡ Some k
  unfolding field_type
  word_typed (variable name) k there is = name_typed name k there is
  word_typed (field name) k there is = is
  word_typed own k there is = is

  mutual
    unfolding HasType HaveTypes AllHaveType names_in names_in_all

    has_type : (a : Expression) (k : Kind) → AllThere (names_in a) → HasType reg (types_of vs) a k → HasType reg (types_of all.present) a k
    has_type (constant x) k there is = is
    has_type (word w) k there is = record { from = is.from; typed = word_typed w is.from there is.typed; fits = is.fits }
    has_type (operation op a b) k there is = let parts = both_all (is_there xs) (names_in a) (names_in b) there in (is.0, has_type a k parts.0 is.1, has_type b k parts.1 is.2)
    has_type (any t a) k there is = (is.0, is.1, is.2, has_type a t there is.3)
    has_type (tuple name es) k there is = (is.0, is.1, have_types es _ there is.2)
    has_type (list t es) k there is = (is.0, is.1, is.2, all_have_type es t there is.3)
    has_type (bytes es) k there is = (is.0, all_have_type es kd.byte there is.1)

    have_types : (es : Expressions) (ks : List Kind) → AllThere (names_in_all es) → HaveTypes reg (types_of vs) es ks → HaveTypes reg (types_of all.present) es ks
    have_types none [] there is = tt
    have_types none (k ∷ ks) there is = is
    have_types (more a es) [] there is = is
    have_types (more a es) (k ∷ ks) there is = let parts = both_all (is_there xs) (names_in a) (names_in_all es) there in (has_type a k parts.0 is.0, have_types es ks parts.1 is.1)

    all_have_type : (es : Expressions) (k : Kind) → AllThere (names_in_all es) → AllHaveType reg (types_of vs) es k → AllHaveType reg (types_of all.present) es k
    all_have_type none k there is = tt
    all_have_type (more a es) k there is = let parts = both_all (is_there xs) (names_in a) (names_in_all es) there in (has_type a k parts.0 is.0, all_have_type es k parts.1 is.1)

  argument_fits : (p : Param) (a : Argument) → AllThere (argument_names a) → ArgumentFits reg (types_of vs) p a → ArgumentFits reg (types_of all.present) p a
  argument_fits p (into a) there is = (is.0, has_type a p.kind there is.1)
  argument_fits p (out name) there is = (is.0, record { to = is.1.to; typed = name_typed name is.1.to there is.1.typed; fits = is.1.fits })
  argument_fits p (both name) there is = (is.0, name_typed name p.kind there is.1)

  pub arguments_fit : (ps : List Param) (args : List Argument) → AllThere (flat_map argument_names args) → ArgumentsFit reg (types_of vs) ps args → ArgumentsFit reg (types_of all.present) ps args
  unfolding ArgumentsFit
  arguments_fit [] [] there is = tt
  arguments_fit [] (a ∷ args) there is = is
  arguments_fit (p ∷ ps) [] there is = is
  arguments_fit (p ∷ ps) (a ∷ args) there is =
      let parts = both_all (is_there xs) (argument_names a) (flat_map argument_names args) (subst AllThere (flat_map-cons argument_names a args) there) in (argument_fits p a parts.0 is.0, arguments_fit ps args parts.1 is.1)

-- ---- variables that change

-- another value under a name
put_any : (reg : List Entity) (name : List ℕ) (y : Plain) (xs : List Variable) (ps : List Scoped) → VariablesFit reg xs ps → ((k : Kind) → found_kind name ps ≡ Some k → Fits reg y k)
    → VariablesFit reg (put name y xs) ps
unfolding VariablesFit put
put_any reg name y [] [] fit fits = tt
put_any reg name y [] (p ∷ ps) fit fits = absurd fit
put_any reg name y (x ∷ xs) [] fit fits = absurd fit
put_any reg name y (x ∷ xs) (p ∷ ps) fit fits = by_test (λ all. put_any reg name y xs ps fit.2 all) (bytes_eq name p.name) refl
  where
    by_test : (((k : Kind) → found_kind name ps ≡ Some k → Fits reg y k) → VariablesFit reg (put name y xs) ps) → (b : Bool) → bytes_eq name p.name ≡ b → VariablesFit reg (put name y (x ∷ xs)) (p ∷ ps)
    by_test later true is =
        let here : bytes_eq name x.name ≡ true = rw fit.0 is in
        rw here (fit.0, fits p.kind (found_kind_is name p ps true is), fit.2)
    by_test later false is =
        let here : bytes_eq name x.name ≡ false = rw fit.0 is in
        rw here (fit.0, fit.1, later (λ k at. fits k (found_kind_is name p ps false is ∙ at)))

pub put_are : (reg : List Entity) (name : List ℕ) (y : Plain) (xs : List Variable) (vs : List Scoped) (k : Kind) → found_kind name vs ≡ Some k → Fits reg y k → VariablesAre reg xs vs
    → VariablesAre reg (put name y xs) vs
put_are reg name y xs vs k is fits all =
    record { present = all.present; fit = put_any reg name y xs all.present all.fit (λ j at. subst (Fits reg y) (same_some (sym is ∙ all.are name j at)) fits); are = all.are }

-- more types
pub grown_are : (reg : List Entity) (xs : List Variable) (vs us : List Scoped) → VariablesAre reg xs vs → VariablesAre reg xs (vs ++ us)
grown_are reg xs vs us all = record { present = all.present; fit = all.fit; are = λ name k is. found_before name vs us k (all.are name k is) }

-- a new variable, of a name that was not known
new_found : (name : List ℕ) (k : Kind) (vs : List Scoped) → found_kind name vs ≡ None → found_kind name (vs ++ record { name = name; kind = k; comes_out = false } ∷ []) ≡ Some k
new_found name k [] new = found_kind_is name (record { name = name; kind = k; comes_out = false }) [] true ((bytes_eq-Decides name name).1 refl)
new_found name k (x ∷ vs) new = by_test (λ rest. new_found name k vs rest) (bytes_eq name x.name) refl
  where
    by_test : (found_kind name vs ≡ None → found_kind name (vs ++ record { name = name; kind = k; comes_out = false } ∷ []) ≡ Some k) → (b : Bool) → bytes_eq name x.name ≡ b → found_kind name (x ∷ (vs ++ record { name = name; kind = k; comes_out = false } ∷ [])) ≡ Some k
    by_test later true is = let bad : Some x.kind ≡ None = sym (found_kind_is name x vs true is) ∙ new in absurd (none_some (sym bad))
    by_test later false is = found_kind_is name x (vs ++ record { name = name; kind = k; comes_out = false } ∷ []) false is ∙ later (sym (found_kind_is name x vs false is) ∙ new)

-- what is found where one more stands is found before it, or is that
found_either : (n name : List ℕ) (k j : Kind) (ps : List Scoped) → found_kind n (ps ++ record { name = name; kind = k; comes_out = false } ∷ []) ≡ Some j
    → (found_kind n ps ≡ Some j) ⊎ ((n ≡ name) × (k ≡ j))
found_either n name k j [] is = by_test (bytes_eq n name) refl
  where
    last : Scoped
    last = record { name = name; kind = k; comes_out = false }

    by_test : (b : Bool) → bytes_eq n name ≡ b → (found_kind n [] ≡ Some j) ⊎ ((n ≡ name) × (k ≡ j))
    by_test true same = inr ((bytes_eq-Decides n name).0 same, same_some (sym (found_kind_is n last [] true same) ∙ is))
    by_test false same = absurd (none_some (sym (found_kind_is n last [] false same) ∙ is))
found_either n name k j (x ∷ ps) is = by_test (λ rest. found_either n name k j ps rest) (bytes_eq n x.name) refl
  where
    longer : List Scoped
    longer = ps ++ record { name = name; kind = k; comes_out = false } ∷ []

    on : bytes_eq n x.name ≡ false → (found_kind n ps ≡ Some j) ⊎ ((n ≡ name) × (k ≡ j)) → (found_kind n (x ∷ ps) ≡ Some j) ⊎ ((n ≡ name) × (k ≡ j))
    on here (inl at) = inl (found_kind_is n x ps false here ∙ at)
    on here (inr at) = inr at

    by_test : (found_kind n longer ≡ Some j → (found_kind n ps ≡ Some j) ⊎ ((n ≡ name) × (k ≡ j))) → (b : Bool) → bytes_eq n x.name ≡ b
        → (found_kind n (x ∷ ps) ≡ Some j) ⊎ ((n ≡ name) × (k ≡ j))
    by_test later true here = inl (found_kind_is n x ps true here ∙ (sym (found_kind_is n x longer true here) ∙ is))
    by_test later false here = on here (later (sym (found_kind_is n x longer false here) ∙ is))

pub added_are : (reg : List Entity) (name : List ℕ) (y : Plain) (xs : List Variable) (vs : List Scoped) (k : Kind) → found_kind name vs ≡ None → Fits reg y k → VariablesAre reg xs vs
    → VariablesAre reg (with_variable name y xs) (vs ++ record { name = name; kind = k; comes_out = false } ∷ [])
added_are reg name y xs vs k new fits all =
    record { present = all.present ++ record { name = name; kind = k; comes_out = false } ∷ []; fit = added_fits reg name y xs all.present k all.fit fits; are = are }
  where
    by_either : (n : List ℕ) (j : Kind) → (found_kind n all.present ≡ Some j) ⊎ ((n ≡ name) × (k ≡ j)) → found_kind n (vs ++ record { name = name; kind = k; comes_out = false } ∷ []) ≡ Some j
    by_either n j (inl at) = found_before n vs (record { name = name; kind = k; comes_out = false } ∷ []) j (all.are n j at)
    by_either n j (inr at) = subst (λ m. found_kind m (vs ++ record { name = name; kind = k; comes_out = false } ∷ []) ≡ Some j) (sym at.0) (new_found name k vs new ∙ ap Some at.1)

    are : (n : List ℕ) (j : Kind) → found_kind n (all.present ++ record { name = name; kind = k; comes_out = false } ∷ []) ≡ Some j
        → found_kind n (vs ++ record { name = name; kind = k; comes_out = false } ∷ []) ≡ Some j
    are n j at = by_either n j (found_either n name k j all.present at)

-- ---- a variable that goes

abbrev left : List ℕ → List Scoped → List Scoped
left name ps = filter (λ t. not (bytes_eq name t.name)) ps

left_is : (name : List ℕ) (x : Scoped) (ps : List Scoped) (b : Bool) → bytes_eq name x.name ≡ b → left name (x ∷ ps) ≡ (if b then left name ps else x ∷ left name ps)
left_is name x ps true is = rw is refl
left_is name x ps false is = rw is refl

not_eq : (n m : List ℕ) → (n ≡ m → ⊥) → (b : Bool) → bytes_eq n m ≡ b → bytes_eq n m ≡ false
not_eq n m apart true is = absurd (apart ((bytes_eq-Decides n m).0 is))
not_eq n m apart false is = is

left_found : (name n : List ℕ) (j : Kind) (ps : List Scoped) → found_kind n (left name ps) ≡ Some j → (name ≡ n → ⊥) × (found_kind n ps ≡ Some j)
left_found name n j [] is = absurd (none_some is)
left_found name n j (x ∷ ps) is = by_test (λ rest. left_found name n j ps rest) (bytes_eq name x.name) refl
  where
    Later : Type 0
    Later = found_kind n (left name ps) ≡ Some j → (name ≡ n → ⊥) × (found_kind n ps ≡ Some j)

    by_name : Later → bytes_eq name x.name ≡ false → (c : Bool) → bytes_eq n x.name ≡ c → found_kind n (x ∷ left name ps) ≡ Some j → (name ≡ n → ⊥) × (found_kind n (x ∷ ps) ≡ Some j)
    by_name later stays true here at = (
      (λ e. true≢false (sym ((bytes_eq-Decides name x.name).1 (e ∙ (bytes_eq-Decides n x.name).0 here)) ∙ stays)),
      found_kind_is n x ps true here ∙ (sym (found_kind_is n x (left name ps) true here) ∙ at),
    )
    by_name later stays false here at =
        let found = later (sym (found_kind_is n x (left name ps) false here) ∙ at) in (found.0, found_kind_is n x ps false here ∙ found.1)

    by_test : Later → (b : Bool) → bytes_eq name x.name ≡ b → (name ≡ n → ⊥) × (found_kind n (x ∷ ps) ≡ Some j)
    by_test later true gone =
        let found = later (ap (found_kind n) (sym (left_is name x ps true gone)) ∙ is) in
        let apart : n ≡ x.name → ⊥ = λ e. found.0 ((bytes_eq-Decides name x.name).0 gone ∙ sym e) in
        (found.0, found_kind_is n x ps false (not_eq n x.name apart (bytes_eq n x.name) refl) ∙ found.1)
    by_test later false stays = by_name later stays (bytes_eq n x.name) refl (ap (found_kind n) (sym (left_is name x ps false stays)) ∙ is)

left_keeps : (name n : List ℕ) (j : Kind) (ps : List Scoped) → (name ≡ n → ⊥) → found_kind n ps ≡ Some j → found_kind n (left name ps) ≡ Some j
left_keeps name n j [] apart is = absurd (none_some is)
left_keeps name n j (x ∷ ps) apart is = by_test (λ rest. left_keeps name n j ps apart rest) (bytes_eq name x.name) refl
  where
    Later : Type 0
    Later = found_kind n ps ≡ Some j → found_kind n (left name ps) ≡ Some j

    by_name : Later → (c : Bool) → bytes_eq n x.name ≡ c → found_kind n (x ∷ left name ps) ≡ Some j
    by_name later true here = found_kind_is n x (left name ps) true here ∙ (sym (found_kind_is n x ps true here) ∙ is)
    by_name later false here = found_kind_is n x (left name ps) false here ∙ later (sym (found_kind_is n x ps false here) ∙ is)

    by_test : Later → (b : Bool) → bytes_eq name x.name ≡ b → found_kind n (left name (x ∷ ps)) ≡ Some j
    by_test later true gone =
        let differ : n ≡ x.name → ⊥ = λ e. apart ((bytes_eq-Decides name x.name).0 gone ∙ sym e) in
        ap (found_kind n) (left_is name x ps true gone) ∙ later (sym (found_kind_is n x ps false (not_eq n x.name differ (bytes_eq n x.name) refl)) ∙ is)
    by_test later false stays = ap (found_kind n) (left_is name x ps false stays) ∙ by_name later (bytes_eq n x.name) refl

pub without_are : (reg : List Entity) (name : List ℕ) (xs : List Variable) (vs : List Scoped) → VariablesAre reg xs vs
    → VariablesAre reg (without name xs) (filter (λ t. not (bytes_eq name t.name)) vs)
without_are reg name xs vs all =
    record {
      present = left name all.present;
      fit = without_fits reg name xs all.present all.fit;
      are = λ n j at. let found = left_found name n j all.present at in left_keeps name n j vs found.0 (all.are n j found.1);
    }
