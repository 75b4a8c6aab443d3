-- The types of a frame's words stay types of the registry, where a method begins and behind each statement; and an exception that an expression has is one.
use Rattle.std.proofs.Common.{◌≡◌, refl, sym, ap, ◌∙◌, ℕ, Bool, true, false, not, List, [], ◌∷◌, Option, None, Some}
use Rattle.std.specs.Prelude.{Contains}
use Rattle.std.specs.List.{AllByRecursion, list_all, filter}
use Rattle.std.specs.Str.{bytes_eq}
use Rattle.std.proofs.lemmas.Bool.{and_parts, and_from}
use mathlib.Core.Path.{subst}
use Rattle.uno_model.specs.Entities.{Entity, Field, Param}
use Rattle.uno_model.specs.Fits.{Fits}
use Rattle.uno_model.specs.Functions.{Function, declared_by}
use Rattle.uno_model.specs.Kinds.{Kind}
use Rattle.uno_model.specs.Kinds as kd
use Rattle.uno_model.specs.Registry.{find_entity}
use Rattle.uno_model.specs.Types.{is_type}
use Rattle.uno_model.specs.Values.{Ref, Plain}
use Rattle.uno_model.specs.Values as v
use Rattle.uno_model.proofs.CodeLaws.{same_kind_told}
use Rattle.uno_model.proofs.Options.{same_some, none_some}
use Rattle.plan_model.specs.Contexts.{Scoped, parameters}
use Rattle.plan_model.specs.Expressions.{Word, variable, field, own, Expression, constant, word, operation, any, tuple, list, bytes}
use Rattle.plan_model.specs.Plans.{Plan}
use Rattle.plan_model.specs.Statements.{Statement, let_variable, set_variable, set_field, call, query, make, drop_variable, when, return, raise, dispose}
use Rattle.plan_typing.specs.Effects.{NamesDiffer, TypesStand}
use Rattle.plan_typing.specs.Statements.{IsTyped, IsTypedField, ResultFits, types_behind, with_type, with_result}
use Rattle.plan_typing.specs.Types.{Types, HasType, variable_type, field_type, word_type}
use Rattle.plan_typing.proofs.EffectOuts.{stay_in_front, stay_without, stay_first}
use Rattle.plan_typing.proofs.FramePuts.{are_types, found_type}
use Rattle.plan_typing.proofs.FrameAnswers.{more_types}
use Rattle.plan_typing.proofs.ValueWords.{found_field, found_field_is}

-- ---- fields

pub found_field_type : (reg : List Entity) (name : List ℕ) (fs : List Field) (k : Kind) → AllByRecursion (IsTypedField reg) fs → found_field name fs ≡ Some k → is_type reg k ≡ true
found_field_type reg name [] k all is = absurd (none_some is)
found_field_type reg name (f ∷ fs) k all is = by_test (found_field_type reg name fs k all.1) (bytes_eq name f.name) refl is
  where
    by_test : (found_field name fs ≡ Some k → is_type reg k ≡ true) → (b : Bool) → bytes_eq name f.name ≡ b → found_field name (f ∷ fs) ≡ Some k → is_type reg k ≡ true
    by_test later true same to =
        let kind : Some f.kind ≡ Some k = sym (found_field_is name f fs true same) ∙ to in
        subst (λ j. is_type reg j ≡ true) (same_some kind) all.0
    by_test later false other to = later (sym (found_field_is name f fs false other) ∙ to)

-- ---- exceptions

no_reference : (reg : List Entity) (name : List ℕ) (r : Ref) → Fits reg (v.ref r) (kd.exception name) → ⊥
unfolding Fits
no_reference reg name r fits = fits

value_exception : (reg : List Entity) (name : List ℕ) (x : Plain) → Fits reg x (kd.exception name) → is_type reg (kd.exception name) ≡ true
unfolding Fits
value_exception reg name v.void fits = absurd (cc)
value_exception reg name (v.char n) fits = absurd (cc)
value_exception reg name (v.boolean b) fits = absurd (cc)
value_exception reg name (v.byte n) fits = absurd (cc)
value_exception reg name (v.short n) fits = absurd (cc)
value_exception reg name (v.unsigned_short n) fits = absurd (cc)
value_exception reg name (v.long n) fits = absurd (cc)
value_exception reg name (v.unsigned_long n) fits = absurd (cc)
value_exception reg name (v.hyper n) fits = absurd (cc)
value_exception reg name (v.unsigned_hyper n) fits = absurd (cc)
value_exception reg name (v.str s) fits = absurd (cc)
value_exception reg name (v.kind t) fits = let e = fits.0 in absurd (cc)
value_exception reg name (v.any t x) fits = let e = fits.0 in absurd (cc)
value_exception reg name (v.enum mark n) fits = let e = fits.0 in absurd (cc)
value_exception reg name (v.tuple mark xs) fits = fits.1
value_exception reg name (v.list t xs) fits = let e = fits.0 in absurd (cc)
value_exception reg name (v.bytes b) fits = absurd (cc)
value_exception reg name (v.ref r) fits = absurd (no_reference reg name r fits)

module _ (reg : List Entity) (ts : Types) (variables : are_types reg ts.variables ≡ true) (fields : AllByRecursion (IsTypedField reg) ts.fields) where
  -- a word of an exception's type
  word_exception : (name : List ℕ) (w : Word) → word_type ts w ≡ Some (kd.exception name) → is_type reg (kd.exception name) ≡ true
  unfolding variable_type field_type
  word_exception name (variable x) is = found_type reg x ts.variables (kd.exception name) variables is
  word_exception name (field x) is = found_field_type reg x ts.fields (kd.exception name) fields is
  word_exception name own is = let bad : kd.interface ts.own ≡ kd.exception name = same_some is in absurd (cc)

  pub exception_type : (a : Expression) (name : List ℕ) → HasType reg ts a (kd.exception name) → is_type reg (kd.exception name) ≡ true
  unfolding HasType
  exception_type (constant x) name typed = value_exception reg name x typed.0
  exception_type (word w) name typed =
      let same : kd.exception name ≡ typed.from = (same_kind_told (kd.exception name) typed.from).0 typed.fits in
      word_exception name w (typed.typed ∙ ap Some (sym same))
  exception_type (operation op a b) name typed = let bad : false ≡ true = typed.0 in absurd (cc)
  exception_type (any t a) name typed = let bad = typed.0 in absurd (cc)
  exception_type (tuple mark es) name typed = typed.1
  exception_type (list t es) name typed = let bad = typed.0 in absurd (cc)
  exception_type (bytes es) name typed = let bad = typed.0 in absurd (cc)

-- ---- behind each statement

fewer_types : (reg : List Entity) (p : Scoped → Bool) (ts : List Scoped) → are_types reg ts ≡ true → are_types reg (filter p ts) ≡ true
fewer_types reg p [] all = refl
fewer_types reg p (t ∷ ts) all = by_test (p t) refl (fewer_types reg p ts (and_parts (is_type reg t.kind) (are_types reg ts) all).1)
  where
    by_test : (b : Bool) → p t ≡ b → are_types reg (filter p ts) ≡ true → are_types reg (filter p (t ∷ ts)) ≡ true
    by_test true is rest = rw is (and_from (is_type reg t.kind) (are_types reg (filter p ts)) (and_parts (is_type reg t.kind) (are_types reg ts) all).0 rest)
    by_test false is rest = rw is rest

module _ (reg : List Entity) (f : Function) where
  one_more_stands : (ts : Types) (name : List ℕ) (k : Kind) → TypesStand reg f ts → is_type reg k ≡ true → TypesStand reg f (with_type name k ts)
  one_more_stands ts name k stand is =
      let last : Scoped = record { name = name; kind = k; comes_out = false } in
      record {
        variables = more_types reg ts.variables last stand.variables is;
        fields = stand.fields;
        outs = stay_in_front f.params ts.variables (last ∷ []) stand.outs;
      }

  result_stands : (ts : Types) (k : Kind) (to : Option Field) → TypesStand reg f ts → ResultFits reg k to → TypesStand reg f (with_result to ts)
  result_stands ts k None stand fits = stand
  result_stands ts k (Some x) stand fits = one_more_stands ts x.name x.kind stand fits.0

  pub types_stand_behind : (plan : Plan) (ts : Types) (s : Statement) → IsTyped reg plan f ts s → TypesStand reg f ts → TypesStand reg f (types_behind s ts)
  unfolding IsTyped types_behind
  types_stand_behind plan ts (let_variable x a) typed stand = one_more_stands ts x.name x.kind stand typed.0
  types_stand_behind plan ts (call c) typed stand = result_stands ts typed.function.result_kind c.to stand typed.result
  types_stand_behind plan ts (query q) typed stand = one_more_stands ts q.to (kd.interface q.wanted) stand typed.wanted
  types_stand_behind plan ts (make m) typed stand = one_more_stands ts m.to (kd.interface m.face) stand typed.face
  types_stand_behind plan ts (drop_variable name) typed stand =
      record {
        variables = fewer_types reg (λ x. not (bytes_eq name x.name)) ts.variables stand.variables;
        fields = stand.fields;
        outs = stay_without name f.params ts.variables typed stand.outs;
      }
  types_stand_behind plan ts (set_variable name a) typed stand = stand
  types_stand_behind plan ts (set_field name a) typed stand = stand
  types_stand_behind plan ts (when t back) typed stand = stand
  types_stand_behind plan ts (return back) typed stand = stand
  types_stand_behind plan ts (raise name a) typed stand = stand
  types_stand_behind plan ts dispose typed stand = stand

  -- ---- where a method begins

  parameter_types : (ps : List Param) → list_all (λ p. is_type reg p.kind) ps ≡ true → are_types reg (parameters ps) ≡ true
  unfolding parameters
  parameter_types [] all = refl
  parameter_types (p ∷ ps) all =
      let parts = and_parts (is_type reg p.kind) (list_all (λ (q : Param). is_type reg q.kind) ps) all in
      and_from (is_type reg p.kind) (are_types reg (parameters ps)) parts.0 (parameter_types ps parts.1)

  pub first_stand : NamesDiffer reg → (fs : List Field) (face : List ℕ) → Contains (declared_by f.owner (find_entity f.owner reg)) f → list_all (λ p. is_type reg p.kind) f.params ≡ true
      → AllByRecursion (IsTypedField reg) fs → TypesStand reg f (record { variables = parameters f.params; fields = fs; own = face })
  first_stand differ fs face declared types fields =
      record { variables = parameter_types f.params types; fields = fields; outs = stay_first f.params (differ.params f.owner f declared) }
