-- A term without operations is an expression without them.
use Rattle.std.proofs.Common.{◌≡◌, refl, subst, ℕ, true, List, [], ◌∷◌, Option, None, Some}
use Rattle.std.specs.List.{list_all}
use Rattle.std.proofs.lemmas.Bool.{and_parts, and_from}
use Rattle.uno_model.specs.Entities.{Entity, Param}
use Rattle.uno_model.specs.Kinds.{Kind}
use Rattle.uno_model.specs.Fits.{member_kinds}
use Rattle.uno_model.specs.Kinds as kd
use Rattle.uno_model.specs.NamedTypes.{type_of_text}
use Rattle.uno_model.specs.declared.way.Way.{Way}
use Rattle.uno_model.specs.declared.way.Way.TheVariants as way
use Rattle.uno_model.proofs.Options.{same_some, none_some}
use Rattle.plan_model.specs.Contexts.{Context, kind_of_word, kind_of_variable, kind_fits}
use Rattle.literal_model.specs.Readings.{single}
use Rattle.plan_model.specs.Expressions.{Word, Expression, Expressions, Argument}
use Rattle.plan_model.specs.Expressions as e
use Rattle.plan_model.specs.Forms.{is_root_term, are_root_terms}
use Rattle.plan_model.specs.Lines.{Term, Terms, leaf, type_named, void_any, typed, elements, members, word, operation, none, more}
use Rattle.plan_model.specs.Typing.{only_if, type_value, void_any_at, any_at, elements_at, members_at, word_at, expression_of, all_at, each_at, variable_in, gets, out_argument, argument_of, arguments_of}
use Rattle.plan_typing.proofs.LineCalls.{then_there}
use Rattle.plan_typing.proofs.TermTypes.{holds}
use Rattle.plan_typing.proofs.ValueLaws.{both_there, mapped}
use Rattle.bridge_laws.specs.RootStatements.{has_value, have_values, may_be_given}

type_there : (k : Kind) (o : Option Kind) (a : Expression) → type_value k o ≡ Some a → has_value a ≡ true
unfolding has_value
type_there kd.kind (Some t) a is = subst (λ z. has_value z ≡ true) (same_some is) refl
type_there kd.kind None a is = absurd (none_some is)
type_there _ o a is = absurd (none_some is)

void_there : (k : Kind) (a : Expression) → void_any_at k ≡ Some a → has_value a ≡ true
unfolding has_value
void_there kd.any a is = subst (λ z. has_value z ≡ true) (same_some is) refl
void_there _ a is = absurd (none_some is)

any_there : (k : Kind) (o : Option Kind) (content : Kind → Option Expression) (a : Expression) → ((t : Kind) (b : Expression) → content t ≡ Some b → has_value b ≡ true) → any_at k o content ≡ Some a
    → has_value a ≡ true
unfolding has_value
any_there kd.any (Some t) content a all is = let from = mapped (e.any t) (content t) a is in subst (λ z. has_value z ≡ true) from.is (all t from.from from.there)
any_there kd.any None content a all is = absurd (none_some is)
any_there _ o content a all is = absurd (none_some is)

elements_there : (k : Kind) (content : Kind → Option Expressions) (a : Expression) → ((t : Kind) (b : Expressions) → content t ≡ Some b → have_values b ≡ true) → elements_at k content ≡ Some a
    → has_value a ≡ true
unfolding has_value
elements_there (kd.sequence kd.byte) content a all is = let from = mapped e.bytes (content kd.byte) a is in subst (λ z. has_value z ≡ true) from.is (all kd.byte from.from from.there)
elements_there (kd.sequence k) content a all is = let from = mapped (e.list k) (content k) a is in subst (λ z. has_value z ≡ true) from.is (all k from.from from.there)
elements_there _ content a all is = absurd (none_some is)

members_there : (reg : List Entity) (k : Kind) (content : List Kind → Option Expressions) (a : Expression) → ((ks : List Kind) (b : Expressions) → content ks ≡ Some b → have_values b ≡ true)
    → members_at reg k content ≡ Some a → has_value a ≡ true
unfolding has_value
members_there reg (kd.struct name) content a all is =
    let from = mapped (e.tuple name) (content (member_kinds reg name)) a is in subst (λ z. has_value z ≡ true) from.is (all (member_kinds reg name) from.from from.there)
members_there reg (kd.exception name) content a all is =
    let from = mapped (e.tuple name) (content (member_kinds reg name)) a is in subst (λ z. has_value z ≡ true) from.is (all (member_kinds reg name) from.from from.there)
members_there reg _ content a all is = absurd (none_some is)

word_there : (reg : List Entity) (k : Kind) (w : Word) (o : Option Kind) (a : Expression) → word_at reg k w o ≡ Some a → has_value a ≡ true
unfolding has_value
word_there reg k w None a is = absurd (none_some is)
word_there reg k w (Some from) a is = let fits = holds (kind_fits reg k from) (Some (e.word w)) a is in subst (λ z. has_value z ≡ true) (same_some fits.1) refl

module _ (reg : List Entity) (c : Context) where
  mutual
    unfolding expression_of all_at each_at is_root_term are_root_terms has_value have_values

    term_there : (t : Term) (k : Kind) (a : Expression) → is_root_term t ≡ true → expression_of reg c t k ≡ Some a → has_value a ≡ true
    term_there (leaf t) k a root is = let from = mapped e.constant (single reg k t) a is in subst (λ z. has_value z ≡ true) from.is refl
    term_there (type_named t) k a root is = type_there k (type_of_text reg t) a is
    term_there void_any k a root is = void_there k a is
    term_there (typed t x) k a root is = any_there k (type_of_text reg t) (expression_of reg c x) a (λ j b at. term_there x j b root at) is
    term_there (elements ts) k a root is = elements_there k (all_at reg c ts) a (λ j b at. all_there ts j b root at) is
    term_there (members ts) k a root is = members_there reg k (each_at reg c ts) a (λ ks b at. each_there ts ks b root at) is
    term_there (word w) k a root is = word_there reg k w (kind_of_word c w) a is
    term_there (operation op s t) k a root is = absurd (cc)

    all_there : (ts : Terms) (k : Kind) (es : Expressions) → are_root_terms ts ≡ true → all_at reg c ts k ≡ Some es → have_values es ≡ true
    all_there none k es root is = subst (λ z. have_values z ≡ true) (same_some is) refl
    all_there (more t ts) k es root is =
        let both = both_there (expression_of reg c t k) (all_at reg c ts k) (λ a rest. Some (e.more a rest)) es is in
        let parts = and_parts (is_root_term t) (are_root_terms ts) root in
        subst (λ z. have_values z ≡ true) (same_some both.made)
        (and_from (has_value both.first) (have_values both.second) (term_there t k both.first parts.0 both.first_is) (all_there ts k both.second parts.1 both.second_is))

    each_there : (ts : Terms) (ks : List Kind) (es : Expressions) → are_root_terms ts ≡ true → each_at reg c ts ks ≡ Some es → have_values es ≡ true
    each_there none [] es root is = subst (λ z. have_values z ≡ true) (same_some is) refl
    each_there none (k ∷ ks) es root is = absurd (none_some is)
    each_there (more t ts) [] es root is = absurd (none_some is)
    each_there (more t ts) (k ∷ ks) es root is =
        let both = both_there (expression_of reg c t k) (each_at reg c ts ks) (λ a rest. Some (e.more a rest)) es is in
        let parts = and_parts (is_root_term t) (are_root_terms ts) root in
        subst (λ z. have_values z ≡ true) (same_some both.made)
        (and_from (has_value both.first) (have_values both.second) (term_there t k both.first parts.0 both.first_is) (each_there ts ks both.second parts.1 both.second_is))

  -- ---- arguments

  out_given : (p : Param) (mk : List ℕ → Argument) (o : Option (List ℕ)) (a : Argument) → ((name : List ℕ) → may_be_given (mk name) ≡ true) → out_argument reg c p mk o ≡ Some a → may_be_given a ≡ true
  out_given p mk None a all is = absurd (none_some is)
  out_given p mk (Some name) a all is =
      let known = then_there (kind_of_variable c name) (λ from. only_if (gets reg p.way p.kind from) (Some (mk name))) a is in
      let fits = holds (gets reg p.way p.kind known.first) (Some (mk name)) a known.made in subst (λ z. may_be_given z ≡ true) (same_some fits.1) (all name)

  argument_given : (w : Way) (n : List ℕ) (k : Kind) (t : Term) (a : Argument) → is_root_term t ≡ true → argument_of reg c (record { way = w; name = n; kind = k }) t ≡ Some a → may_be_given a ≡ true
  unfolding argument_of
  argument_given way.Into n k t a root is =
      let from = mapped e.into (expression_of reg c t k) a is in subst (λ z. may_be_given z ≡ true) from.is (term_there t k from.from root from.there)
  argument_given way.Out n k t a root is = out_given (record { way = way.Out; name = n; kind = k }) e.out (variable_in t) a (λ name. refl) is
  argument_given way.Both n k t a root is = out_given (record { way = way.Both; name = n; kind = k }) e.both (variable_in t) a (λ name. refl) is

  pub arguments_given : (ps : List Param) (ts : List Term) (args : List Argument) → list_all is_root_term ts ≡ true → arguments_of reg c ps ts ≡ Some args → list_all may_be_given args ≡ true
  unfolding arguments_of
  arguments_given [] [] args roots is = subst (λ z. list_all may_be_given z ≡ true) (same_some is) refl
  arguments_given [] (t ∷ ts) args roots is = absurd (none_some is)
  arguments_given (p ∷ ps) [] args roots is = absurd (none_some is)
  arguments_given (p ∷ ps) (t ∷ ts) args roots is =
      let both = both_there (argument_of reg c p t) (arguments_of reg c ps ts) (λ a rest. Some (a ∷ rest)) args is in
      let parts = and_parts (is_root_term t) (list_all is_root_term ts) roots in
      subst (λ z. list_all may_be_given z ≡ true) (same_some both.made)
      (and_from (may_be_given both.first) (list_all may_be_given both.second) (argument_given p.way p.name p.kind t both.first parts.0 both.first_is) (arguments_given ps ts both.second parts.1 both.second_is))
