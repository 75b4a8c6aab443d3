-- Calls, queries and new objects are typed, where each term, word and behaviour in them fits.
use Rattle.std.proofs.Common.{◌≡◌, refl, sym, ap, ◌∙◌, ℕ, Bool, true, false, ◌&&◌, List, [], ◌∷◌, Option, None, Some, option_map, slice_get, length, nat_lt, if◌then◌else◌}
use Rattle.std.specs.Prelude.{IsTrue}
use Rattle.std.specs.List.{list_all, find, position, position_or_len}
use Rattle.std.specs.Str.{bytes_eq}
use Rattle.std.proofs.lemmas.Bool.{and_parts}
use Rattle.std.proofs.lemmas.List.Folds.{find_at}
use mathlib.Core.Path.{subst}
use Rattle.literal_model.specs.Readings.{and_then}
use Rattle.uno_model.specs.Codes.{same_kind}
use Rattle.uno_model.specs.Entities.{Entity, Field, Param}
use Rattle.uno_model.specs.Fits.{IsInterface}
use Rattle.uno_model.specs.Functions.{Function}
use Rattle.uno_model.specs.Kinds.{Kind, interface_of}
use Rattle.uno_model.specs.Kinds as kd
use Rattle.uno_model.specs.NamedTypes.{type_of_text}
use Rattle.uno_model.specs.Sound.{IsSound}
use Rattle.uno_model.specs.Types.{is_type}
use Rattle.uno_model.specs.declared.way.Way.{Way}
use Rattle.uno_model.specs.declared.way.Way.TheVariants as way
use Rattle.uno_model.proofs.CodeLaws.{same_kind_told}
use Rattle.uno_model.proofs.KindLaws.{interface_is}
use Rattle.uno_model.proofs.Options.{same_some, none_some}
use Rattle.plan_model.specs.Contexts.{Context, kind_of_word, kind_of_variable, kind_fits, called_function, behaviour_number, behaviour_named, behaviours_before}
use Rattle.plan_model.specs.Evaluation.{both_values}
use Rattle.plan_model.specs.Expressions.{Word, variable, Argument}
use Rattle.plan_model.specs.Expressions as e
use Rattle.plan_model.specs.Forms.{is_term}
use Rattle.plan_model.specs.Lines.{Term, Declared}
use Rattle.plan_model.specs.Plans.{Plan, Behaviour, supports}
use Rattle.plan_model.specs.Statements.{Call, Query, Making}
use Rattle.plan_model.specs.Typing.{only_if, expression_of, gets, variable_in, out_argument, argument_of, arguments_of}
use Rattle.plan_model.specs.TypedStatements.{face_of_text, face_of_word, declared_field, result_field, call_with, call_of, query_of, supports_named, making_of}
use Rattle.plan_typing.specs.Statements.{Gets, ArgumentFits, ArgumentsFit, ResultFits, IsTypedCall, IsTypedQuery, IsTypedMaking}
use Rattle.plan_typing.specs.Types.{Types, word_type, variable_type}
use Rattle.plan_typing.proofs.TermFunctions.{HasTypes, called_typed, called_name}
use Rattle.plan_typing.proofs.TermTypes.{holds, text_type, term_typed}
use Rattle.plan_typing.proofs.ValueLaws.{both_there, mapped}

-- ---- options

-- what there is of two steps
pub record Then {A B : Type 0} (o : Option A) (go : A → Option B) (z : B) : Type 0 where
  pub first : A
  pub first_is : o ≡ Some first
  pub made : go first ≡ Some z

pub then_there : {A B : Type 0} (o : Option A) (go : A → Option B) (z : B) → and_then o go ≡ Some z → Then o go z
then_there None go z is = absurd (none_some is)
then_there (Some x) go z is = record { first = x; first_is = refl; made = is }

face_known : (o : Option Kind) (face : List ℕ) → and_then o interface_of ≡ Some face → o ≡ Some (kd.interface face)
face_known o face is = let known = then_there o interface_of face is in known.first_is ∙ ap Some (interface_is known.first face known.made)

-- ---- what stands before a line

-- words have the types that are known of them, which are types of the registry
pub record KnowsWords (reg : List Entity) (c : Context) (ts : Types) : Type 0 where
  pub typed : (w : Word) (k : Kind) → kind_of_word c w ≡ Some k → word_type ts w ≡ Some k
  pub types : (w : Word) (k : Kind) → kind_of_word c w ≡ Some k → is_type reg k ≡ true
  pub variables : ts.variables ≡ c.variables

-- the behaviour of a plan that stands at a place where one stood, with the same faces
pub record StandsFor (plan : Plan) (n : ℕ) (b : Behaviour) : Type 0 where
  pub behaviour : Behaviour
  pub found : slice_get plan.behaviours n ≡ Some behaviour
  pub faces : behaviour.faces ≡ b.faces

abbrev pub KeepsBehaviours : Context → Plan → Type 0
KeepsBehaviours c plan = (n : ℕ) (b : Behaviour) → slice_get (behaviours_before c) n ≡ Some b → StandsFor plan n b

module _ (reg : List Entity) (sound : IsSound reg) (c : Context) (ts : Types) (knows : KnowsWords reg c ts) where
  -- ---- arguments

  variable_known : (name : List ℕ) (k : Kind) → kind_of_variable c name ≡ Some k → variable_type ts name ≡ Some k
  unfolding kind_of_word
  variable_known name k is = knows.typed (variable name) k is

  out_fits : (n : List ℕ) (k : Kind) (o : Option (List ℕ)) (a : Argument) → out_argument reg c (record { way = way.Out; name = n; kind = k }) e.out o ≡ Some a
      → ArgumentFits reg ts (record { way = way.Out; name = n; kind = k }) a
  out_fits n k None a is = absurd (none_some is)
  out_fits n k (Some name) a is =
      let known = then_there (kind_of_variable c name) (λ from. only_if (kind_fits reg from k) (Some (e.out name))) a is in
      let fits = holds (kind_fits reg known.first k) (Some (e.out name)) a known.made in
      let got : Gets reg ts name k = record { to = known.first; typed = variable_known name known.first known.first_is; fits = fits.0 } in
      subst (λ z. ArgumentFits reg ts (record { way = way.Out; name = n; kind = k }) z) (same_some fits.1) (refl, got)

  both_fits : (n : List ℕ) (k : Kind) (o : Option (List ℕ)) (a : Argument) → out_argument reg c (record { way = way.Both; name = n; kind = k }) e.both o ≡ Some a
      → ArgumentFits reg ts (record { way = way.Both; name = n; kind = k }) a
  both_fits n k None a is = absurd (none_some is)
  both_fits n k (Some name) a is =
      let known = then_there (kind_of_variable c name) (λ from. only_if (same_kind k from) (Some (e.both name))) a is in
      let fits = holds (same_kind k known.first) (Some (e.both name)) a known.made in
      let same : known.first ≡ k = sym ((same_kind_told k known.first).0 fits.0) in
      subst (λ z. ArgumentFits reg ts (record { way = way.Both; name = n; kind = k }) z) (same_some fits.1)
      (refl, variable_known name k (known.first_is ∙ ap Some same))

  argument_fits : (w : Way) (n : List ℕ) (k : Kind) (t : Term) (a : Argument) → is_type reg k ≡ true → is_term reg t ≡ true
      → argument_of reg c (record { way = w; name = n; kind = k }) t ≡ Some a → ArgumentFits reg ts (record { way = w; name = n; kind = k }) a
  unfolding argument_of
  argument_fits way.Into n k t a there formed is =
      let from = mapped e.into (expression_of reg c t k) a is in
      subst (λ z. ArgumentFits reg ts (record { way = way.Into; name = n; kind = k }) z) from.is
      (refl, term_typed reg sound c ts knows.typed t k from.from there formed from.there)
  argument_fits way.Out n k t a there formed is = out_fits n k (variable_in t) a is
  argument_fits way.Both n k t a there formed is = both_fits n k (variable_in t) a is

  arguments_fit : (ps : List Param) (xs : List Term) (args : List Argument) → list_all (λ p. is_type reg p.kind) ps ≡ true → list_all (is_term reg) xs ≡ true
      → arguments_of reg c ps xs ≡ Some args → ArgumentsFit reg ts ps args
  unfolding arguments_of ArgumentsFit
  arguments_fit [] [] args types formed is = subst (λ z. ArgumentsFit reg ts [] z) (same_some is) tt
  arguments_fit [] (x ∷ xs) args types formed is = absurd (none_some is)
  arguments_fit (p ∷ ps) [] args types formed is = absurd (none_some is)
  arguments_fit (p ∷ ps) (x ∷ xs) args types formed is =
      let there = and_parts (is_type reg p.kind) (list_all (λ q. is_type reg q.kind) ps) types in
      let terms = and_parts (is_term reg x) (list_all (is_term reg) xs) formed in
      let both = both_there (argument_of reg c p x) (arguments_of reg c ps xs) (λ a rest. Some (a ∷ rest)) args is in
      subst (λ z. ArgumentsFit reg ts (p ∷ ps) z) (same_some both.made)
      (argument_fits p.way p.name p.kind x both.first there.0 terms.0 both.first_is, arguments_fit ps xs both.second there.1 terms.1 both.second_is)

  -- ---- declared names

  pub declared_type : (d : Declared) (x : Field) → declared_field reg d ≡ Some x → is_type reg x.kind ≡ true
  declared_type d x is =
      let from = mapped (λ k. record { name = d.name; kind = k }) (type_of_text reg d.kind) x is in
      subst (λ (z : Field). is_type reg z.kind ≡ true) from.is (text_type reg sound d.kind from.from from.there)

  interface_named : (text face : List ℕ) → face_of_text reg text ≡ Some face → IsInterface reg face
  interface_named text face is = text_type reg sound text (kd.interface face) (face_known (type_of_text reg text) face is)

  result_fits : (f : Function) (o : Option Declared) (to : Option Field) → result_field reg f o ≡ Some to → ResultFits reg f.result_kind to
  result_fits f None to is = subst (λ z. ResultFits reg f.result_kind z) (same_some is) tt
  result_fits f (Some d) to is =
      let known = then_there (declared_field reg d) (λ x. only_if (kind_fits reg x.kind f.result_kind) (Some (Some x))) to is in
      let fits = holds (kind_fits reg known.first.kind f.result_kind) (Some (Some known.first)) to known.made in
      subst (λ z. ResultFits reg f.result_kind z) (same_some fits.1) (declared_type d known.first known.first_is, fits.0)

  -- ---- calls, queries and new objects

  word_face : (w : Word) (face : List ℕ) → face_of_word c w ≡ Some face → word_type ts w ≡ Some (kd.interface face)
  word_face w face is = knows.typed w (kd.interface face) (face_known (kind_of_word c w) face is)

  pub call_typed : (to : Option Declared) (target : Word) (function : List ℕ) (xs : List Term) (x : Call) → list_all (is_term reg) xs ≡ true
      → call_of reg c to target function xs ≡ Some x → IsTypedCall reg ts x
  unfolding call_of
  call_typed to target function xs x formed is =
      let callee = then_there (and_then (face_of_word c target) (λ face. called_function reg face function))
      (λ f. both_values (arguments_of reg c f.params xs) (result_field reg f to) (call_with target f)) x is in
      let f = callee.first in
      let face = then_there (face_of_word c target) (λ name. called_function reg name function) f callee.first_is in
      let both = both_there (arguments_of reg c f.params xs) (result_field reg f to) (call_with target f) x callee.made in
      let types = called_typed reg sound face.first function f face.made in
      let found : called_function reg face.first f.name ≡ Some f =
      subst (λ n. called_function reg face.first n ≡ Some f) (called_name reg sound face.first function f face.made) face.made
      in
      subst (IsTypedCall reg ts) (same_some both.made)
      (record {
        face = face.first;
        function = f;
        target = word_face target face.first face.first_is;
        found = found;
        owner = refl;
        name = refl;
        arguments = arguments_fit f.params xs both.first types.params formed both.first_is;
        result = result_fits f to both.second both.second_is;
      })

  pub query_typed : (d : Declared) (target : Word) (q : Query) → query_of reg c d target ≡ Some q → IsTypedQuery reg ts q
  unfolding query_of
  query_typed d target q is =
      let both = both_there (face_of_word c target) (face_of_text reg d.kind) (λ face wanted. Some (record { target = target; wanted = wanted; to = d.name })) q is in
      subst (IsTypedQuery reg ts) (same_some both.made)
      (record { face = both.first; target = word_face target both.first both.first_is; wanted = interface_named d.kind both.second both.second_is })

  -- ---- new objects

  -- the behaviour that is found stands at the place that is found
  at_number : (p : Behaviour → Bool) (bs : List Behaviour) (n : ℕ) (o : Option Behaviour) → find p bs ≡ o → position p bs ≡ Some n → slice_get bs n ≡ o
  at_number p bs n o found is = by_test (nat_lt (position_or_len p bs) (length bs)) is
    where
      by_test : (b : Bool) → (if b then Some (position_or_len p bs) else None) ≡ Some n → slice_get bs n ≡ o
      by_test true to = subst (λ at. slice_get bs at ≡ o) (same_some to) (sym (find_at p bs) ∙ found)
      by_test false to = absurd (none_some to)

  making_of_behaviour : (plan : Plan) → KeepsBehaviours c plan → (n : ℕ) (o : Option Behaviour) (m : Making) → m.behaviour ≡ n → IsInterface reg m.face
      → slice_get (behaviours_before c) n ≡ o → supports_named reg o m.face ≡ true → IsTypedMaking reg plan m
  making_of_behaviour plan keeps n None m number there at is = absurd (cc)
  making_of_behaviour plan keeps n (Some b) m number there at is =
      let stands = keeps n b at in
      record {
        behaviour = stands.behaviour;
        found = ap (slice_get plan.behaviours) number ∙ stands.found;
        supported = ap (λ faces. supports reg faces m.face) stands.faces ∙ is;
        face = there;
      }

  pub making_typed : (plan : Plan) → KeepsBehaviours c plan → (d : Declared) (name : List ℕ) (m : Making) → making_of reg c d name ≡ Some m → IsTypedMaking reg plan m
  unfolding making_of
  making_typed plan keeps d name m is =
      let both = both_there (behaviour_number c name) (face_of_text reg d.kind)
      (λ n face. only_if (supports_named reg (behaviour_named c name) face) (Some (record { behaviour = n; face = face; to = d.name }))) m is in
      let fits = holds (supports_named reg (behaviour_named c name) both.second) (Some (record { behaviour = both.first; face = both.second; to = d.name })) m both.made in
      let at = at_number (λ b. bytes_eq name b.name) (behaviours_before c) both.first (behaviour_named c name) refl both.first_is in
      subst (IsTypedMaking reg plan) (same_some fits.1)
      (making_of_behaviour plan keeps both.first (behaviour_named c name) (record { behaviour = both.first; face = both.second; to = d.name }) refl
      (interface_named d.kind both.second both.second_is) at fits.0)
