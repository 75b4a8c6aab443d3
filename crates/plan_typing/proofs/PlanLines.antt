-- Behind each line, what is written so far of a plan is typed.
use Rattle.std.proofs.Common.{◌≡◌, refl, sym, ap, ◌∙◌, ℕ, Bool, true, false, List, [], ◌∷◌, ◌++◌, Option, None, Some, append_assoc, append-nil}
use Rattle.std.specs.List.{AllByRecursion}
use Rattle.std.proofs.lemmas.Bool.{and_parts}
use mathlib.Core.Path.{subst}
use Rattle.uno_model.specs.Entities.{Entity, Field, Param}
use Rattle.uno_model.specs.Functions.{Function}
use Rattle.uno_model.specs.Kinds.{Kind}
use Rattle.uno_model.specs.Kinds as kd
use Rattle.uno_model.specs.NamedTypes.{type_of_text}
use Rattle.uno_model.specs.Sound.{IsSound}
use Rattle.uno_model.specs.Types.{is_type}
use Rattle.uno_model.proofs.Options.{same_some}
use Rattle.urp_model.proofs.Entries.{all_weaker}
use Rattle.plan_model.specs.Building.{behind_statement, behind_root_statement, with_statement, with_root_statement, with_line, opens_method, with_field, closes, behind}
use Rattle.plan_model.specs.Contexts.{Scoped, Block, at_top, in_behaviour, in_method, in_thread, Context, kind_of_word, kind_of_variable, kind_of_field, declared_function, parameters, behaviour_number}
use Rattle.plan_model.specs.Expressions.{Word, variable, field, own}
use Rattle.plan_model.specs.Forms.{is_line}
use Rattle.plan_model.specs.LinePlaces.{may_stand, is_whole_method}
use Rattle.plan_model.specs.Lines.{Line}
use Rattle.plan_model.specs.Lines as line
use Rattle.plan_model.specs.Plans.{Plan, Behaviour, Method}
use Rattle.plan_model.specs.Statements.{Statement, RootStatement}
use Rattle.plan_model.specs.TypedStatements.{statement_of, root_statement_of}
use Rattle.plan_typing.specs.Statements.{IsTyped, AreTyped, IsTypedField, IsTypedMethod, IsTypedBehaviour}
use Rattle.plan_typing.specs.Types.{Types, word_type, variable_type, field_type}
use Rattle.plan_typing.proofs.FramePuts.{are_types, found_type}
use Rattle.plan_typing.proofs.LineCalls.{KnowsWords, KeepsBehaviours}
use Rattle.plan_typing.proofs.LineStatements.{statement_typed}
use Rattle.plan_typing.proofs.PlanFields.{found_field_before, found_field_type, params_typed, all_and_one}
use Rattle.plan_typing.proofs.PlanGrows.{statement_stays, root_statement_stays, service_grows, singleton_grows, export_grows}
use Rattle.plan_typing.proofs.PlanSoFar.{SoFar, one_more, whole_typed, types_kept, types_are}
use Rattle.plan_typing.proofs.TermFunctions.{declared_typed, declared_face}
use Rattle.plan_typing.proofs.TermTypes.{text_type}

-- ---- what is kept

-- the types in a method, whatever fields are written behind those that are there
abbrev pub types_in : List Scoped → (fields more : List Field) → List ℕ → Types
types_in vs fields more face = record { variables = vs; fields = fields ++ more; own = face }

-- a method is typed, whatever fields are written later
pub record MethodTyped (reg : List Entity) (plan : Plan) (fields : List Field) (m : Method) : Type 0 where
  pub function : Function
  pub found : declared_function reg m.face m.function ≡ Some function
  pub body : (more : List Field) → AreTyped reg plan function (types_in (parameters function.params) fields more m.face) m.body

-- a method that is open is typed as far as it stands
pub record MethodSoFar (reg : List Entity) (plan : Plan) (fields : List Field) (m : Method) (f : Function) (vs : List Scoped) : Type 0 where
  pub found : declared_function reg m.face m.function ≡ Some f
  pub types : are_types reg vs ≡ true
  pub so_far : (more : List Field) → SoFar reg plan f (types_in (parameters f.params) fields more m.face) m.body (types_in vs fields more m.face)

pub record BehaviourSoFar (reg : List Entity) (plan : Plan) (b : Behaviour) : Type 0 where
  pub fields : AllByRecursion (IsTypedField reg) b.fields
  pub methods : AllByRecursion (MethodTyped reg plan b.fields) b.methods

abbrev pub BlockTyped : List Entity → Plan → Block → List Scoped → Type 0
BlockTyped reg plan at_top vs = Unit
BlockTyped reg plan (in_behaviour b) vs = BehaviourSoFar reg plan b
BlockTyped reg plan (in_method b m f) vs = BehaviourSoFar reg plan b × MethodSoFar reg plan b.fields m f vs
BlockTyped reg plan (in_thread ss) vs = Unit

-- the behaviours that are closed are typed in the plan that comes of all lines, and the open block is as far as it stands
pub record TypedSoFar (reg : List Entity) (plan : Plan) (c : Context) : Type 0 where
  pub closed : AllByRecursion (IsTypedBehaviour reg plan) c.plan.behaviours
  pub opened : BlockTyped reg plan c.block c.variables

abbrev pub context : Plan → Block → List Scoped → Context
context q bl vs = record { plan = q; block = bl; variables = vs }

module _ (reg : List Entity) (sound : IsSound reg) (plan : Plan) where
  -- ---- words in a method

  module _ (q : Plan) (b : Behaviour) (m : Method) (f : Function) (vs : List Scoped) (more : List Field) where
    word_typed : (w : Word) (k : Kind) → kind_of_word (context q (in_method b m f) vs) w ≡ Some k → word_type (types_in vs b.fields more m.face) w ≡ Some k
    unfolding kind_of_word kind_of_variable kind_of_field variable_type field_type
    word_typed (variable name) k is = is
    word_typed (field name) k is = found_field_before name b.fields more k is
    word_typed own k is = is

    word_kind : AllByRecursion (IsTypedField reg) b.fields → MethodSoFar reg plan b.fields m f vs → (w : Word) (k : Kind)
        → kind_of_word (context q (in_method b m f) vs) w ≡ Some k → is_type reg k ≡ true
    unfolding kind_of_word kind_of_variable kind_of_field
    word_kind fields method (variable name) k is = found_type reg name vs k method.types is
    word_kind fields method (field name) k is = found_field_type reg name b.fields k fields is
    word_kind fields method own k is = subst (λ j. is_type reg j ≡ true) (same_some is) (declared_face reg sound m.face m.function f method.found)

    knows : AllByRecursion (IsTypedField reg) b.fields → MethodSoFar reg plan b.fields m f vs
        → KnowsWords reg (context q (in_method b m f) vs) (types_in vs b.fields more m.face)
    knows fields method = record { typed = word_typed; types = word_kind fields method; variables = refl }

  -- ---- statements

  method_step : (q : Plan) (b : Behaviour) (m : Method) (f : Function) (vs : List Scoped) → AllByRecursion (IsTypedBehaviour reg plan) q.behaviours
      → BehaviourSoFar reg plan b → MethodSoFar reg plan b.fields m f vs → (o : Option Statement)
      → ((x : Statement) → o ≡ Some x → (more : List Field) → IsTyped reg plan f (types_in vs b.fields more m.face) x)
      → TypedSoFar reg plan (with_statement b m f o (context q (in_method b m f) vs))
  method_step q b m f vs closed behaviour method None typed = record { closed = closed; opened = (behaviour, method) }
  method_step q b m f vs closed behaviour method (Some x) typed =
      let n : Method = record m { body = m.body ++ x ∷ [] } in
      let d : Context = behind_statement x (context q (in_method b n f) vs) in
      let stays = statement_stays q (in_method b n f) vs x in
      let kept = types_kept reg plan f x (types_in vs b.fields [] m.face) method.types (typed x refl []) in
      let same = types_are q (in_method b n f) vs (b.fields ++ []) m.face x in
      let further : MethodSoFar reg plan b.fields n f d.variables = record {
        found = method.found;
        types = subst (λ (t : Types). are_types reg t.variables ≡ true) same kept;
        so_far = λ more. subst (SoFar reg plan f (types_in (parameters f.params) b.fields more m.face) n.body)
            (types_are q (in_method b n f) vs (b.fields ++ more) m.face x)
            (one_more reg plan f (types_in (parameters f.params) b.fields more m.face) (types_in vs b.fields more m.face) m.body x (method.so_far more) (typed x refl more));
      } in
      record {
        closed = subst (λ (p : Plan). AllByRecursion (IsTypedBehaviour reg plan) p.behaviours) (sym stays.0) closed;
        opened = subst (λ bl. BlockTyped reg plan bl d.variables) (sym stays.1) (behaviour, further);
      }

  root_step : (q : Plan) (ss : List RootStatement) (vs : List Scoped) → AllByRecursion (IsTypedBehaviour reg plan) q.behaviours → (o : Option RootStatement)
      → TypedSoFar reg plan (with_root_statement ss o (context q (in_thread ss) vs))
  root_step q ss vs closed None = record { closed = closed; opened = tt }
  root_step q ss vs closed (Some x) =
      let d : Context = behind_root_statement x (context q (in_thread (ss ++ x ∷ [])) vs) in
      let stays = root_statement_stays q (in_thread (ss ++ x ∷ [])) vs x in
      record {
        closed = subst (λ (p : Plan). AllByRecursion (IsTypedBehaviour reg plan) p.behaviours) (sym stays.0) closed;
        opened = subst (λ bl. BlockTyped reg plan bl d.variables) (sym stays.1) tt;
      }

  statement_step : (q : Plan) (bl : Block) (vs : List Scoped) (l : Line) → KeepsBehaviours (context q bl vs) plan → is_line reg l ≡ true → may_stand bl l ≡ true
      → TypedSoFar reg plan (context q bl vs) → TypedSoFar reg plan (with_line reg l (context q bl vs))
  unfolding may_stand
  statement_step q at_top vs l keeps formed stands is = is
  statement_step q (in_behaviour b) vs l keeps formed stands is = is
  statement_step q (in_thread ss) vs l keeps formed stands is = root_step q ss vs is.closed (root_statement_of reg (context q (in_thread ss) vs) l)
  statement_step q (in_method b m f) vs l keeps formed stands is =
      let behaviour = is.opened.0 in
      let method = is.opened.1 in
      let types = declared_typed reg sound m.face m.function f method.found in
      method_step q b m f vs is.closed behaviour method (statement_of reg (context q (in_method b m f) vs) l)
      (λ x made more. statement_typed reg sound plan m f types.result (context q (in_method b m f) vs) (types_in vs b.fields more m.face)
      (knows q b m f vs more behaviour.fields method) refl keeps l x formed stands made)

  -- ---- fields

  wider : (fields : List Field) (x : Field) (m : Method) → MethodTyped reg plan fields m → MethodTyped reg plan (fields ++ x ∷ []) m
  wider fields x m is = record {
    function = is.function;
    found = is.found;
    body = λ more. subst (λ fs. AreTyped reg plan is.function (record { variables = parameters is.function.params; fields = fs; own = m.face }) m.body)
        (sym (append_assoc fields (x ∷ []) more)) (is.body (x ∷ more));
  }

  field_step : (q : Plan) (b : Behaviour) (vs : List Scoped) (name : List ℕ) (o : Option Kind) → ((k : Kind) → o ≡ Some k → is_type reg k ≡ true)
      → TypedSoFar reg plan (context q (in_behaviour b) vs) → TypedSoFar reg plan (with_field (in_behaviour b) name o (context q (in_behaviour b) vs))
  field_step q b vs name None there is = is
  field_step q b vs name (Some k) there is =
      let x : Field = record { name = name; kind = k } in
      record {
        closed = is.closed;
        opened = record {
          fields = all_and_one (IsTypedField reg) b.fields x is.opened.fields (there k refl);
          methods = all_weaker (MethodTyped reg plan b.fields) (MethodTyped reg plan (b.fields ++ x ∷ [])) (wider b.fields x) b.methods is.opened.methods;
        };
      }

  field_line : (q : Plan) (bl : Block) (vs : List Scoped) (name : List ℕ) (o : Option Kind) → ((k : Kind) → o ≡ Some k → is_type reg k ≡ true)
      → TypedSoFar reg plan (context q bl vs) → TypedSoFar reg plan (with_field bl name o (context q bl vs))
  field_line q (in_behaviour b) vs name o there is = field_step q b vs name o there is
  field_line q _ vs name o there is = is

  -- ---- methods

  opens_step : (q : Plan) (b : Behaviour) (vs : List Scoped) (face function : List ℕ) (o : Option Function) → declared_function reg face function ≡ o
      → TypedSoFar reg plan (context q (in_behaviour b) vs) → TypedSoFar reg plan (opens_method (in_behaviour b) face function o (context q (in_behaviour b) vs))
  opens_step q b vs face function None found is = is
  opens_step q b vs face function (Some f) found is =
      let types = declared_typed reg sound face function f found in
      record {
        closed = is.closed;
        opened = (is.opened, record { found = found; types = params_typed reg f.params types.params; so_far = λ more. refl });
      }

  opens_line : (q : Plan) (bl : Block) (vs : List Scoped) (face function : List ℕ) (o : Option Function) → declared_function reg face function ≡ o
      → TypedSoFar reg plan (context q bl vs) → TypedSoFar reg plan (opens_method bl face function o (context q bl vs))
  opens_line q (in_behaviour b) vs face function o found is = opens_step q b vs face function o found is
  opens_line q _ vs face function o found is = is

  -- ---- ends

  whole_method : (b : Behaviour) (m : Method) (f : Function) (vs : List Scoped) → is_whole_method m f ≡ true → MethodSoFar reg plan b.fields m f vs
      → MethodTyped reg plan b.fields m
  whole_method b m f vs whole is = record {
    function = f;
    found = is.found;
    body = λ more. whole_typed reg plan f (types_in (parameters f.params) b.fields more m.face) (types_in vs b.fields more m.face) m (is.so_far more) whole;
  }

  with_no_more : (b : Behaviour) (m : Method) → MethodTyped reg plan b.fields m → IsTypedMethod reg plan b m
  with_no_more b m is = record {
    function = is.function;
    found = is.found;
    body = subst (λ fs. AreTyped reg plan is.function (record { variables = parameters is.function.params; fields = fs; own = m.face }) m.body) (append-nil b.fields) (is.body []);
  }

  whole_behaviour : (b : Behaviour) → BehaviourSoFar reg plan b → IsTypedBehaviour reg plan b
  whole_behaviour b is = record { fields = is.fields; methods = all_weaker (MethodTyped reg plan b.fields) (IsTypedMethod reg plan b) (with_no_more b) b.methods is.methods }

  end_step : (q : Plan) (bl : Block) (vs : List Scoped) → may_stand bl line.end_line ≡ true → TypedSoFar reg plan (context q bl vs)
      → TypedSoFar reg plan (closes bl (context q bl vs))
  unfolding may_stand
  end_step q at_top vs stands is = is
  end_step q (in_behaviour b) vs stands is =
      record { closed = all_and_one (IsTypedBehaviour reg plan) q.behaviours b is.closed (whole_behaviour b is.opened); opened = tt }
  end_step q (in_method b m f) vs stands is =
      let behaviour = is.opened.0 in
      let method = whole_method b m f vs stands is.opened.1 in
      record {
        closed = is.closed;
        opened = record { fields = behaviour.fields; methods = all_and_one (MethodTyped reg plan b.fields) b.methods m behaviour.methods method };
      }
  end_step q (in_thread ss) vs stands is = record { closed = is.closed; opened = tt }

  -- ---- any line

  renamed : (q p : Plan) (bl : Block) (vs : List Scoped) → p.behaviours ≡ q.behaviours → TypedSoFar reg plan (context q bl vs) → TypedSoFar reg plan (context p bl vs)
  renamed q p bl vs same is = record { closed = subst (AllByRecursion (IsTypedBehaviour reg plan)) (sym same) is.closed; opened = is.opened }

  pub line_step : (q : Plan) (bl : Block) (vs : List Scoped) (l : Line) → KeepsBehaviours (context q bl vs) plan → is_line reg l ≡ true → may_stand bl l ≡ true
      → TypedSoFar reg plan (context q bl vs) → TypedSoFar reg plan (behind reg l (context q bl vs))
  unfolding behind
  line_step q bl vs (line.behaviour name faces) keeps formed stands is = record { closed = is.closed; opened = record { fields = tt; methods = tt } }
  line_step q bl vs (line.field d) keeps formed stands is = field_line q bl vs d.name (type_of_text reg d.kind) (text_type reg sound d.kind) is
  line_step q bl vs (line.method face function) keeps formed stands is = opens_line q bl vs face function (declared_function reg face function) refl is
  line_step q bl vs (line.service name b) keeps formed stands is =
      renamed q _ bl vs (service_grows reg q vs (behaviour_number (context q bl vs) b) name) is
  line_step q bl vs (line.singleton name b) keeps formed stands is =
      renamed q _ bl vs (singleton_grows reg q vs (behaviour_number (context q bl vs) b) name) is
  line_step q bl vs (line.export name b) keeps formed stands is =
      renamed q _ bl vs (export_grows reg q vs (behaviour_number (context q bl vs) b) name) is
  line_step q bl vs line.thread keeps formed stands is = record { closed = is.closed; opened = tt }
  line_step q bl vs line.end_line keeps formed stands is = end_step q bl vs stands is
  line_step q bl vs l keeps formed stands is = statement_step q bl vs l keeps formed stands is
