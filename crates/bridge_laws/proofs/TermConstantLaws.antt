-- The constants of an expression that a term is refer to nothing: in a term stands null alone.
use Rattle.std.proofs.Common.{◌≡◌, ℕ, Bool, true, false, if◌then◌else◌, List, [], ◌∷◌, flat_map, Option, None, Some, option_map, refl, ap, ◌∙◌, arith}
use Rattle.std.specs.Str.{bytes_eq}
use Rattle.literal_model.specs.Literals.{Token}
use Rattle.literal_model.specs.Readings.{and_then, word_in, word_as, numeric, single}
use Rattle.uno_model.specs.Entities.{Entity, Param}
use Rattle.uno_model.specs.Fits.{member_kinds}
use Rattle.uno_model.specs.Kinds.{Kind}
use Rattle.uno_model.specs.Kinds as kd
use Rattle.uno_model.specs.NamedTypes.{type_of_text}
use Rattle.uno_model.specs.Values.{Ref, Plain, refs}
use Rattle.uno_model.specs.Values as v
use Rattle.uno_model.specs.declared.way.Way.{Way}
use Rattle.uno_model.specs.declared.way.Way.TheVariants as way
use Rattle.plan_model.specs.Contexts.{Context, kind_of_variable, kind_of_word}
use Rattle.plan_model.specs.Evaluation.{both_values}
use Rattle.plan_model.specs.Expressions.{Word, Expression, Expressions, Argument}
use Rattle.plan_model.specs.Expressions as e
use Rattle.plan_model.specs.Lines.{Term, Terms, leaf, type_named, void_any, typed, elements, members, word, operation, none, more}
use Rattle.plan_model.specs.Typing.{is_whole, only_if, type_value, void_any_at, any_at, elements_at, members_at, word_at, expression_of, all_at, each_at, variable_in, gets, out_argument, argument_of, arguments_of}
use Rattle.plan_model.specs.declared.operation.Operation.{Operation}
use Rattle.bridge_laws.specs.Counting.{total}
use Rattle.bridge_laws.specs.Living.{constants_in, constants_each, argument_constants}
use Rattle.bridge_laws.proofs.EvaluationLaws.{option_counts, numbers_count}
use Rattle.bridge_laws.proofs.Sums.{total_append}

-- ---- literals

either_counts : (f : Ref → ℕ) (b : Bool) (x : Plain) → total f (refs x) ≡ 0 → option_counts f (if b then Some x else None) ≡ 0
either_counts f true x fine = fine
either_counts f false x fine = refl

word_counts : (f : Ref → ℕ) (asked : List ℕ) (x : Plain) (w : Option (List ℕ)) → total f (refs x) ≡ 0 → option_counts f (and_then w (word_as asked x)) ≡ 0
word_counts f asked x None fine = refl
word_counts f asked x (Some w) fine = either_counts f (bytes_eq w asked) x fine

numeric_counts : (f : Ref → ℕ) (k : Kind) (t : Token) → option_counts f (numeric k t) ≡ 0
unfolding refs total
numeric_counts f kd.char t = numbers_count f v.char _ (λ n. refl)
numeric_counts f kd.byte t = numbers_count f v.byte _ (λ n. refl)
numeric_counts f kd.short t = numbers_count f v.short _ (λ n. refl)
numeric_counts f kd.unsigned_short t = numbers_count f v.unsigned_short _ (λ n. refl)
numeric_counts f kd.long t = numbers_count f v.long _ (λ n. refl)
numeric_counts f kd.unsigned_long t = numbers_count f v.unsigned_long _ (λ n. refl)
numeric_counts f kd.hyper t = numbers_count f v.hyper _ (λ n. refl)
numeric_counts f kd.unsigned_hyper t = numbers_count f v.unsigned_hyper _ (λ n. refl)
numeric_counts f k t = refl

single_counts : (f : Ref → ℕ) (reg : List Entity) (k : Kind) (t : Token) → option_counts f (single reg k t) ≡ 0
unfolding refs total
single_counts f reg kd.void t = word_counts f _ v.void (word_in t) refl
single_counts f reg kd.boolean t = numbers_count f v.boolean _ (λ b. refl)
single_counts f reg kd.str t = numbers_count f v.str _ (λ w. refl)
single_counts f reg kd.kind t = numbers_count f v.kind _ (λ k. refl)
single_counts f reg (kd.enum name) t = numbers_count f (v.enum name) _ (λ n. refl)
single_counts f reg (kd.interface name) t = word_counts f _ (v.ref v.null) (word_in t) refl
single_counts f reg k t = numeric_counts f k t

-- ---- expressions

abbrev pub expression_counts : (Ref → ℕ) → Option Expression → ℕ
expression_counts f None = 0
expression_counts f (Some a) = total f (constants_in a)

abbrev pub expressions_count : (Ref → ℕ) → Option Expressions → ℕ
expressions_count f None = 0
expressions_count f (Some es) = total f (constants_each es)

constant_counts : (f : Ref → ℕ) (x : Option Plain) → option_counts f x ≡ 0 → expression_counts f (option_map e.constant x) ≡ 0
unfolding constants_in
constant_counts f None fine = refl
constant_counts f (Some x) fine = fine

type_counts : (f : Ref → ℕ) (k : Kind) (t : Option Kind) → expression_counts f (type_value k t) ≡ 0
unfolding constants_in refs total
type_counts f kd.kind (Some t) = refl
type_counts f k t = refl

void_any_counts : (f : Ref → ℕ) (k : Kind) → expression_counts f (void_any_at k) ≡ 0
unfolding constants_in refs total
void_any_counts f kd.any = refl
void_any_counts f k = refl

content_counts : (f : Ref → ℕ) (t : Kind) (a : Option Expression) → expression_counts f a ≡ 0 → expression_counts f (option_map (e.any t) a) ≡ 0
unfolding constants_in
content_counts f t None fine = refl
content_counts f t (Some a) fine = fine

any_counts : (f : Ref → ℕ) (k : Kind) (t : Option Kind) (content : Kind → Option Expression) → ((k : Kind) → expression_counts f (content k) ≡ 0)
    → expression_counts f (any_at k t content) ≡ 0
any_counts f kd.any (Some t) content fine = content_counts f t (content t) (fine t)
any_counts f k t content fine = refl

parts_count : (f : Ref → ℕ) (mk : Expressions → Expression) (o : Option Expressions) → ((es : Expressions) → constants_in (mk es) ≡ constants_each es) → expressions_count f o ≡ 0
    → expression_counts f (option_map mk o) ≡ 0
parts_count f mk None same fine = refl
parts_count f mk (Some es) same fine = ap (total f) (same es) ∙ fine

list_parts : (k : Kind) (es : Expressions) → constants_in (e.list k es) ≡ constants_each es
unfolding constants_in
list_parts k es = refl

bytes_parts : (es : Expressions) → constants_in (e.bytes es) ≡ constants_each es
unfolding constants_in
bytes_parts es = refl

tuple_parts : (name : List ℕ) (es : Expressions) → constants_in (e.tuple name es) ≡ constants_each es
unfolding constants_in
tuple_parts name es = refl

elements_count : (f : Ref → ℕ) (k : Kind) (all : Kind → Option Expressions) → ((k : Kind) → expressions_count f (all k) ≡ 0) → expression_counts f (elements_at k all) ≡ 0
elements_count f (kd.sequence kd.byte) all fine = parts_count f e.bytes (all kd.byte) bytes_parts (fine kd.byte)
elements_count f (kd.sequence k) all fine = parts_count f (e.list k) (all k) (list_parts k) (fine k)
elements_count f k all fine = refl

members_count : (f : Ref → ℕ) (reg : List Entity) (k : Kind) (each : List Kind → Option Expressions) → ((ks : List Kind) → expressions_count f (each ks) ≡ 0)
    → expression_counts f (members_at reg k each) ≡ 0
members_count f reg (kd.struct name) each fine = parts_count f (e.tuple name) (each (member_kinds reg name)) (tuple_parts name) (fine (member_kinds reg name))
members_count f reg (kd.exception name) each fine = parts_count f (e.tuple name) (each (member_kinds reg name)) (tuple_parts name) (fine (member_kinds reg name))
members_count f reg k each fine = refl

only_counts : (f : Ref → ℕ) (b : Bool) (o : Option Expression) → expression_counts f o ≡ 0 → expression_counts f (only_if b o) ≡ 0
only_counts f true o fine = fine
only_counts f false o fine = refl

word_at_counts : (f : Ref → ℕ) (reg : List Entity) (k : Kind) (w : Word) (o : Option Kind) → expression_counts f (word_at reg k w o) ≡ 0
unfolding constants_in total
word_at_counts f reg k w None = refl
word_at_counts f reg k w (Some from) = only_counts f _ (Some (e.word w)) refl

operation_counts : (f : Ref → ℕ) (op : Operation) (a b : Option Expression) → expression_counts f a ≡ 0 → expression_counts f b ≡ 0
    → expression_counts f (both_values a b (λ a b. Some (e.operation op a b))) ≡ 0
unfolding constants_in
operation_counts f op None b here there = refl
operation_counts f op (Some a) None here there = refl
operation_counts f op (Some a) (Some b) here there = let parts = total_append f (constants_in a) (constants_in b) in omega arith

more_counts : (f : Ref → ℕ) (a : Option Expression) (b : Option Expressions) → expression_counts f a ≡ 0 → expressions_count f b ≡ 0
    → expressions_count f (both_values a b (λ a rest. Some (e.more a rest))) ≡ 0
unfolding constants_in
more_counts f None b here there = refl
more_counts f (Some a) None here there = refl
more_counts f (Some a) (Some es) here there = let parts = total_append f (constants_in a) (constants_each es) in omega arith

nothing_each : (f : Ref → ℕ) → expressions_count f (Some e.none) ≡ 0
unfolding constants_in total
nothing_each f = refl

mutual
  unfolding expression_of

  pub term_counts : (f : Ref → ℕ) (reg : List Entity) (c : Context) (t : Term) (k : Kind) → expression_counts f (expression_of reg c t k) ≡ 0
  term_counts f reg c (leaf t) k = constant_counts f (single reg k t) (single_counts f reg k t)
  term_counts f reg c (type_named t) k = type_counts f k (type_of_text reg t)
  term_counts f reg c void_any k = void_any_counts f k
  term_counts f reg c (typed t x) k = any_counts f k (type_of_text reg t) (expression_of reg c x) (term_counts f reg c x)
  term_counts f reg c (elements ts) k = elements_count f k (all_at reg c ts) (all_count f reg c ts)
  term_counts f reg c (members ts) k = members_count f reg k (each_at reg c ts) (each_count f reg c ts)
  term_counts f reg c (word w) k = word_at_counts f reg k w (kind_of_word c w)
  term_counts f reg c (operation op x y) k =
      only_counts f (is_whole k) _ (operation_counts f op (expression_of reg c x k) (expression_of reg c y k) (term_counts f reg c x k) (term_counts f reg c y k))

  all_count : (f : Ref → ℕ) (reg : List Entity) (c : Context) (ts : Terms) (k : Kind) → expressions_count f (all_at reg c ts k) ≡ 0
  all_count f reg c none k = nothing_each f
  all_count f reg c (more t ts) k = more_counts f (expression_of reg c t k) (all_at reg c ts k) (term_counts f reg c t k) (all_count f reg c ts k)

  each_count : (f : Ref → ℕ) (reg : List Entity) (c : Context) (ts : Terms) (ks : List Kind) → expressions_count f (each_at reg c ts ks) ≡ 0
  each_count f reg c none [] = nothing_each f
  each_count f reg c none (k ∷ ks) = refl
  each_count f reg c (more t ts) [] = refl
  each_count f reg c (more t ts) (k ∷ ks) = more_counts f (expression_of reg c t k) (each_at reg c ts ks) (term_counts f reg c t k) (each_count f reg c ts ks)

-- ---- arguments

abbrev pub argument_counts : (Ref → ℕ) → Option Argument → ℕ
argument_counts f None = 0
argument_counts f (Some a) = total f (argument_constants a)

abbrev pub arguments_count : (Ref → ℕ) → Option (List Argument) → ℕ
arguments_count f None = 0
arguments_count f (Some xs) = total f (flat_map argument_constants xs)

into_counts : (f : Ref → ℕ) (a : Option Expression) → expression_counts f a ≡ 0 → argument_counts f (option_map e.into a) ≡ 0
into_counts f None fine = refl
into_counts f (Some a) fine = fine

argument_only : (f : Ref → ℕ) (b : Bool) (a : Argument) → total f (argument_constants a) ≡ 0 → argument_counts f (only_if b (Some a)) ≡ 0
argument_only f true a fine = fine
argument_only f false a fine = refl

out_from : (f : Ref → ℕ) (reg : List Entity) (p : Param) (mk : List ℕ → Argument) (name : List ℕ) (from : Option Kind) → ((name : List ℕ) → total f (argument_constants (mk name)) ≡ 0)
    → argument_counts f (and_then from (λ from. only_if (gets reg p.way p.kind from) (Some (mk name)))) ≡ 0
out_from f reg p mk name None fine = refl
out_from f reg p mk name (Some from) fine = argument_only f (gets reg p.way p.kind from) (mk name) (fine name)

out_counts : (f : Ref → ℕ) (reg : List Entity) (c : Context) (p : Param) (mk : List ℕ → Argument) (o : Option (List ℕ)) → ((name : List ℕ) → total f (argument_constants (mk name)) ≡ 0)
    → argument_counts f (out_argument reg c p mk o) ≡ 0
out_counts f reg c p mk None fine = refl
out_counts f reg c p mk (Some name) fine = out_from f reg p mk name (kind_of_variable c name) fine

argument_by : (f : Ref → ℕ) (reg : List Entity) (c : Context) (p : Param) (t : Term) (w : Way) → p.way ≡ w → argument_counts f (argument_of reg c p t) ≡ 0
unfolding argument_of total
argument_by f reg c p t way.Into is = rw is (into_counts f (expression_of reg c t p.kind) (term_counts f reg c t p.kind))
argument_by f reg c p t way.Out is = rw is (out_counts f reg c (record { way = way.Out; name = p.name; kind = p.kind }) e.out (variable_in t) (λ name. refl))
argument_by f reg c p t way.Both is = rw is (out_counts f reg c (record { way = way.Both; name = p.name; kind = p.kind }) e.both (variable_in t) (λ name. refl))

argument_more : (f : Ref → ℕ) (a : Option Argument) (b : Option (List Argument)) → argument_counts f a ≡ 0 → arguments_count f b ≡ 0
    → arguments_count f (both_values a b (λ a rest. Some (a ∷ rest))) ≡ 0
argument_more f None b here there = refl
argument_more f (Some a) None here there = refl
argument_more f (Some a) (Some rest) here there = let parts = total_append f (argument_constants a) (flat_map argument_constants rest) in omega arith

pub given_count : (f : Ref → ℕ) (reg : List Entity) (c : Context) (ps : List Param) (ts : List Term) → arguments_count f (arguments_of reg c ps ts) ≡ 0
unfolding arguments_of total
given_count f reg c [] [] = refl
given_count f reg c [] (t ∷ ts) = refl
given_count f reg c (p ∷ ps) [] = refl
given_count f reg c (p ∷ ps) (t ∷ ts) =
    argument_more f (argument_of reg c p t) (arguments_of reg c ps ts) (argument_by f reg c p t p.way refl) (given_count f reg c ps ts)
