-- The statement of a method that a line is, is typed.
use Rattle.std.proofs.Common.{◌≡◌, refl, sym, ap, ◌∙◌, ℕ, Bool, true, false, not, ◌&&◌, List, [], ◌∷◌, Option, None, Some, option_map, if◌then◌else◌}
use Rattle.std.specs.Prelude.{IsTrue}
use Rattle.std.specs.List.{list_all, find}
use Rattle.std.specs.Str.{bytes_eq}
use Rattle.std.proofs.lemmas.Bool.{and_parts}
use mathlib.Core.Path.{subst}
use Rattle.literal_model.specs.Readings.{and_then}
use Rattle.uno_model.specs.Codes.{same_kind}
use Rattle.uno_model.specs.Entities.{Entity, Field}
use Rattle.uno_model.specs.Functions.{Function}
use Rattle.uno_model.specs.Kinds.{Kind, exception_of}
use Rattle.uno_model.specs.Kinds as kd
use Rattle.uno_model.specs.NamedTypes.{type_of_text}
use Rattle.uno_model.specs.Sound.{IsSound}
use Rattle.uno_model.specs.Types.{is_type}
use Rattle.uno_model.proofs.CodeLaws.{same_kind_told}
use Rattle.uno_model.proofs.KindLaws.{exception_is}
use Rattle.uno_model.proofs.Options.{same_some, none_some}
use Rattle.plan_model.specs.Contexts.{Scoped, Context, kind_of_word, kind_of_variable, kind_of_field, known_variable, open_function}
use Rattle.plan_model.specs.Evaluation.{both_values}
use Rattle.plan_model.specs.Expressions.{Word, variable, field, Expression}
use Rattle.plan_model.specs.Forms.{is_term, is_line, is_left_out, is_declared, is_word_formed, is_variable_name, is_type_text, is_function_text}
use Rattle.plan_model.specs.LinePlaces.{is_void, returns_rightly, stands_in_method}
use Rattle.plan_model.specs.Lines.{Term, Declared, Line}
use Rattle.plan_model.specs.Lines as line
use Rattle.plan_model.specs.Plans.{Plan, Method}
use Rattle.plan_model.specs.Statements.{Statement, Test}
use Rattle.plan_model.specs.Statements as s
use Rattle.plan_model.specs.Typing.{only_if, expression_of}
use Rattle.plan_model.specs.TypedStatements.{declared_field, let_of, set_of, stays, drop_of, result_kind_of, back_of, is_compared, test_of, raise_of}
use Rattle.plan_model.specs.TypedStatements.{call_of, query_of, making_of, statement_of}
use Rattle.plan_model.specs.declared.comparison.Comparison.{Comparison}
use Rattle.plan_typing.specs.Statements.{BackFits, TestFits, IsSet, MayGo, IsTyped}
use Rattle.plan_typing.specs.Types.{Types, scoped, HasType}
use Rattle.plan_typing.proofs.LineCalls.{then_there, KnowsWords, KeepsBehaviours, declared_type, call_typed, query_typed, making_typed}
use Rattle.plan_typing.proofs.TermTypes.{holds, text_type, term_typed}
use Rattle.plan_typing.proofs.ValueLaws.{both_there, mapped}

-- ---- names of exceptions

raised_known : (o : Option Kind) (name : List ℕ) → and_then o exception_of ≡ Some name → o ≡ Some (kd.exception name)
raised_known o name is = let known = then_there o exception_of name is in known.first_is ∙ ap Some (exception_is known.first name known.made)

not_both : (b : Bool) → not b ≡ true → b ≡ false
not_both false is = refl
not_both true is = absurd (cc)

module _ (reg : List Entity) (sound : IsSound reg) (plan : Plan) (m : Method) (f : Function) (result : is_type reg f.result_kind ≡ true)
    (c : Context) (ts : Types) (knows : KnowsWords reg c ts) (opened : open_function c.block ≡ Some f) (keeps : KeepsBehaviours c plan) where
  expression_typed : (t : Term) (k : Kind) (a : Expression) → is_type reg k ≡ true → is_term reg t ≡ true → expression_of reg c t k ≡ Some a → HasType reg ts a k
  expression_typed = term_typed reg sound c ts knows.typed

  -- ---- the statements, one by one

  let_typed : (d : Declared) (t : Term) (x : Statement) → is_term reg t ≡ true → let_of reg c d t ≡ Some x → IsTyped reg plan f ts x
  unfolding IsTyped
  let_typed d t x formed is =
      let known = then_there (declared_field reg d) (λ y. option_map (s.let_variable y) (expression_of reg c t y.kind)) x is in
      let from = mapped (s.let_variable known.first) (expression_of reg c t known.first.kind) x known.made in
      let there = declared_type reg sound c ts knows d known.first known.first_is in
      subst (IsTyped reg plan f ts) from.is (there, expression_typed t known.first.kind from.from there formed from.there)

  set_typed : (w : Word) (mk : Expression → Statement) (o found : Option Kind) (t : Term) (x : Statement)
      → ((a : Expression) → IsSet reg ts found a → IsTyped reg plan f ts (mk a))
      → ((k : Kind) → o ≡ Some k → (found ≡ Some k) × (is_type reg k ≡ true))
      → is_term reg t ≡ true → set_of reg c mk o t ≡ Some x → IsTyped reg plan f ts x
  set_typed w mk None found t x made known formed is = absurd (none_some is)
  set_typed w mk (Some k) found t x made known formed is =
      let from = mapped mk (expression_of reg c t k) x is in
      let there = known k refl in
      let set : IsSet reg ts found from.from = record { kind = k; typed = there.0; value = expression_typed t k from.from there.1 formed from.there } in
      subst (IsTyped reg plan f ts) from.is (made from.from set)

  variable_known : (name : List ℕ) (k : Kind) → kind_of_variable c name ≡ Some k → kind_of_word c (variable name) ≡ Some k
  unfolding kind_of_word
  variable_known name k is = is

  field_known : (name : List ℕ) (k : Kind) → kind_of_field c name ≡ Some k → kind_of_word c (field name) ≡ Some k
  unfolding kind_of_word
  field_known name k is = is

  gone : (name : List ℕ) (o : Option Scoped) (x : Statement) → (if stays o then None else Some (s.drop_variable name)) ≡ Some x → (x ≡ s.drop_variable name) × MayGo o
  gone name None x is = (sym (same_some is), tt)
  gone name (Some y) x is = by_test y.comes_out refl is
    where
      by_test : (b : Bool) → y.comes_out ≡ b → (if b then None else Some (s.drop_variable name)) ≡ Some x → (x ≡ s.drop_variable name) × MayGo (Some y)
      by_test true out to = absurd (none_some to)
      by_test false within to = (sym (same_some to), within)

  drop_typed : (name : List ℕ) (x : Statement) → drop_of c name ≡ Some x → IsTyped reg plan f ts x
  unfolding IsTyped
  drop_typed name x is =
      let went = gone name (known_variable c name) x is in
      let may_go : MayGo (scoped name ts) = subst (λ vs. MayGo (find (λ y. bytes_eq name y.name) vs)) (sym knows.variables) went.1 in
      subst (IsTyped reg plan f ts) (sym went.0) may_go

  result_is : result_kind_of (open_function c.block) ≡ f.result_kind
  result_is = ap result_kind_of opened

  back_typed : (o : Option Term) (back : Option Expression) → is_left_out (is_term reg) o ≡ true → returns_rightly f o ≡ true → back_of reg c o ≡ Some back
      → BackFits reg ts f.result_kind back
  back_typed None back formed rightly is = subst (BackFits reg ts f.result_kind) (same_some is) ((same_kind_told f.result_kind kd.void).0 rightly)
  back_typed (Some t) back formed rightly is =
      let from = mapped Some (expression_of reg c t (result_kind_of (open_function c.block))) back is in
      let there : expression_of reg c t f.result_kind ≡ Some from.from = subst (λ k. expression_of reg c t k ≡ Some from.from) result_is from.there in
      subst (BackFits reg ts f.result_kind) from.is (expression_typed t f.result_kind from.from result formed there)

  test_typed : (left : Word) (comparison : Comparison) (t : Term) (x : Test) → is_term reg t ≡ true → test_of reg c left comparison t ≡ Some x → TestFits reg ts x
  test_typed left comparison t x formed is =
      let known = then_there (kind_of_word c left)
      (λ k. only_if (is_compared comparison k) (option_map (λ a. record { left = left; comparison = comparison; right = a }) (expression_of reg c t k))) x is in
      let k = known.first in
      let compared = holds (is_compared comparison k) (option_map (λ a. record { left = left; comparison = comparison; right = a }) (expression_of reg c t k)) x known.made in
      let from = mapped (λ a. record { left = left; comparison = comparison; right = a }) (expression_of reg c t k) x compared.1 in
      subst (TestFits reg ts) from.is
      (record {
        kind = k;
        left = knows.typed left k known.first_is;
        right = expression_typed t k from.from (knows.types left k known.first_is) formed from.there;
      })

  when_typed : (left : Word) (comparison : Comparison) (t : Term) (o : Option Term) (x : Statement) → is_term reg t ≡ true → is_left_out (is_term reg) o ≡ true
      → returns_rightly f o ≡ true → both_values (test_of reg c left comparison t) (back_of reg c o) (λ y b. Some (s.when y b)) ≡ Some x → IsTyped reg plan f ts x
  unfolding IsTyped
  when_typed left comparison t o x formed back_formed rightly is =
      let both = both_there (test_of reg c left comparison t) (back_of reg c o) (λ y b. Some (s.when y b)) x is in
      subst (IsTyped reg plan f ts) (same_some both.made)
      (test_typed left comparison t both.first formed both.first_is, back_typed o both.second back_formed rightly both.second_is)

  return_typed : (o : Option Term) (x : Statement) → is_left_out (is_term reg) o ≡ true → returns_rightly f o ≡ true → option_map s.return (back_of reg c o) ≡ Some x
      → IsTyped reg plan f ts x
  unfolding IsTyped
  return_typed o x formed rightly is =
      let from = mapped s.return (back_of reg c o) x is in
      subst (IsTyped reg plan f ts) from.is (back_typed o from.from formed rightly from.there)

  raise_typed : (text : List ℕ) (t : Term) (x : Statement) → is_term reg t ≡ true → raise_of reg c text t ≡ Some x → IsTyped reg plan f ts x
  unfolding IsTyped
  raise_typed text t x formed is =
      let known = then_there (and_then (type_of_text reg text) exception_of) (λ name. option_map (s.raise name) (expression_of reg c t (kd.exception name))) x is in
      let name = known.first in
      let from = mapped (s.raise name) (expression_of reg c t (kd.exception name)) x known.made in
      let there = text_type reg sound text (kd.exception name) (raised_known (type_of_text reg text) name known.first_is) in
      subst (IsTyped reg plan f ts) from.is (expression_typed t (kd.exception name) from.from there formed from.there)

  line_call : (to : Option Declared) (target : Word) (function : List ℕ) (xs : List Term) (x : Statement) → list_all (is_term reg) xs ≡ true
      → option_map s.call (call_of reg c to target function xs) ≡ Some x → IsTyped reg plan f ts x
  unfolding IsTyped
  line_call to target function xs x formed is =
      let from = mapped s.call (call_of reg c to target function xs) x is in
      subst (IsTyped reg plan f ts) from.is (call_typed reg sound c ts knows to target function xs from.from formed from.there)

  line_query : (d : Declared) (target : Word) (x : Statement) → option_map s.query (query_of reg c d target) ≡ Some x → IsTyped reg plan f ts x
  unfolding IsTyped
  line_query d target x is =
      let from = mapped s.query (query_of reg c d target) x is in
      subst (IsTyped reg plan f ts) from.is (query_typed reg sound c ts knows d target from.from from.there)

  line_make : (d : Declared) (b : List ℕ) (x : Statement) → option_map s.make (making_of reg c d b) ≡ Some x → IsTyped reg plan f ts x
  unfolding IsTyped
  line_make d b x is =
      let from = mapped s.make (making_of reg c d b) x is in
      subst (IsTyped reg plan f ts) from.is (making_typed reg sound c ts knows plan keeps d b from.from from.there)

  -- ---- any line

  pub statement_typed : (l : Line) (x : Statement) → is_line reg l ≡ true → stands_in_method m f l ≡ true → statement_of reg c l ≡ Some x → IsTyped reg plan f ts x
  unfolding statement_of is_line IsTyped
  statement_typed (line.let_variable d t) x formed stands is = let_typed d t x (and_parts (is_declared d) (is_term reg t) formed).1 is
  statement_typed (line.set_variable name t) x formed stands is =
      set_typed (variable name) (s.set_variable name) (kind_of_variable c name) _ t x (λ a set. set)
      (λ k known. (knows.typed (variable name) k (variable_known name k known), knows.types (variable name) k (variable_known name k known)))
      (and_parts (is_variable_name name) (is_term reg t) formed).1 is
  statement_typed (line.set_field name t) x formed stands is =
      set_typed (field name) (s.set_field name) (kind_of_field c name) _ t x (λ a set. set)
      (λ k known. (knows.typed (field name) k (field_known name k known), knows.types (field name) k (field_known name k known)))
      (and_parts _ (is_term reg t) formed).1 is
  statement_typed (line.call to target function xs) x formed stands is =
      let parts = and_parts (is_left_out is_declared to && is_word_formed target) (is_function_text function && list_all (is_term reg) xs) formed in
      line_call to target function xs x (and_parts (is_function_text function) (list_all (is_term reg) xs) parts.1).1 is
  statement_typed (line.query d target) x formed stands is = line_query d target x is
  statement_typed (line.make d b) x formed stands is = line_make d b x is
  statement_typed (line.drop_variable name) x formed stands is = drop_typed name x is
  statement_typed (line.when left comparison right back) x formed stands is =
      let parts = and_parts (is_word_formed left) (is_term reg right && is_left_out (is_term reg) back) formed in
      let terms = and_parts (is_term reg right) (is_left_out (is_term reg) back) parts.1 in
      when_typed left comparison right back x terms.0 terms.1 stands is
  statement_typed (line.return back) x formed stands is = return_typed back x formed stands is
  statement_typed (line.raise text t) x formed stands is = raise_typed text t x (and_parts (is_type_text text) (is_term reg t) formed).1 is
  statement_typed line.dispose x formed stands is = subst (IsTyped reg plan f ts) (same_some is) tt
  statement_typed _ x formed stands is = absurd (none_some is)
