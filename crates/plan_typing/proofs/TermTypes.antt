-- A term that is an expression at a type has that type.
use Rattle.std.proofs.Common.{◌≡◌, ◌≢◌, refl, sym, ap, ◌∙◌, ℕ, Bool, true, false, not, ◌&&◌, ◌||◌, List, [], ◌∷◌, Option, None, Some, option_map, codes, inl, inr, if◌then◌else◌}
use Rattle.std.specs.Prelude.{IsTrue}
use Rattle.std.specs.List.{list_all}
use Rattle.std.specs.Str.{bytes_eq}
use Rattle.std.proofs.lemmas.Bool.{and_parts}
use Rattle.std.proofs.lemmas.Slice.Eq.{bytes_eq-Decides}
use mathlib.Core.Path.{subst}
use Rattle.literal_model.specs.Readings.{and_then, single}
use Rattle.uno_model.specs.Entities.{Entity}
use Rattle.uno_model.specs.Fits.{Fits, member_kinds}
use Rattle.uno_model.specs.Kinds.{Kind}
use Rattle.uno_model.specs.Kinds as kd
use Rattle.uno_model.specs.NamedTypes.{IsNamed, type_of_text}
use Rattle.uno_model.specs.Sound.{IsSound}
use Rattle.uno_model.specs.Types.{is_type}
use Rattle.uno_model.specs.Values.{refs}
use Rattle.uno_model.specs.Values as v
use Rattle.uno_model.proofs.Options.{same_some, none_some}
use Rattle.uno_model.proofs.TypeTextLaws.{Finds, text_finds}
use Rattle.urp_model.proofs.FittingLaws.{element_type}
use Rattle.plan_model.specs.Contexts.{Context, kind_of_word, kind_fits}
use Rattle.plan_model.specs.Evaluation.{both_values}
use Rattle.plan_model.specs.Expressions.{Word, Expression, Expressions}
use Rattle.plan_model.specs.Expressions as e
use Rattle.plan_model.specs.Forms.{is_leaf, is_cast, is_term, are_terms, has_members, is_type_text}
use Rattle.plan_model.specs.Lines.{Term, Terms, leaf, type_named, void_any, typed, elements, members, word, operation, none, more}
use Rattle.plan_model.specs.Typing.{is_whole, only_if, type_value, void_any_at, any_at, elements_at, members_at, word_at, expression_of, all_at, each_at}
use Rattle.plan_typing.specs.Types.{Types, word_type, WordFits, HasType, HaveTypes, AllHaveType}
use Rattle.plan_typing.proofs.TermLeaves.{single_fits}
use Rattle.plan_typing.proofs.ValueFits.{member_types}
use Rattle.plan_typing.proofs.ValueLaws.{both_there, mapped}

-- ---- names of types

-- a text names a type of the registry
named_type : (reg : List Entity) (text : List ℕ) (k : Kind) (o : Option Kind) → o ≡ Some k → Finds (IsNamed reg text) o → IsNamed reg text k
named_type reg text k None is found = absurd (none_some is)
named_type reg text k (Some j) is found = subst (IsNamed reg text) (same_some is) found

pub text_named : (reg : List Entity) → IsSound reg → (text : List ℕ) (k : Kind) → type_of_text reg text ≡ Some k → IsNamed reg text k
text_named reg sound text k is = named_type reg text k (type_of_text reg text) is (text_finds reg text sound.named)

pub text_type : (reg : List Entity) → IsSound reg → (text : List ℕ) (k : Kind) → type_of_text reg text ≡ Some k → is_type reg k ≡ true
text_type reg sound text k is = (text_named reg sound text k is).is

-- what stands before a value is not any
no_any : (a b c : Bool) → (a && not (b || c)) ≡ true → b ≡ true → ⊥
no_any true true c is same = cc
no_any false b c is same = cc
no_any true false c is same = cc

cast_type : (reg : List Entity) → IsSound reg → (text : List ℕ) (k : Kind) → is_cast text ≡ true → type_of_text reg text ≡ Some k → k ≢ kd.any
cast_type reg sound text k formed is any =
    let named : text ≡ codes "any" = sym (text_named reg sound text k is).named ∙ ap kd.name_of any in
    no_any (is_type_text text) (bytes_eq text (codes "any")) (bytes_eq text (codes "void")) formed ((bytes_eq-Decides text (codes "any")).1 named)

-- ---- tests

-- what there is where a test holds
pub holds : {X : Type 0} (b : Bool) (o : Option X) (z : X) → only_if b o ≡ Some z → (b ≡ true) × (o ≡ Some z)
holds true o z is = (refl, is)
holds false o z is = absurd (none_some is)

-- ---- terms

module _ (reg : List Entity) (sound : IsSound reg) (c : Context) (ts : Types)
    (words : (w : Word) (k : Kind) → kind_of_word c w ≡ Some k → word_type ts w ≡ Some k) where
  value_typed : (k : Kind) (o : Option Kind) (a : Expression) → ((t : Kind) → o ≡ Some t → is_type reg t ≡ true) → type_value k o ≡ Some a → HasType reg ts a k
  unfolding HasType Fits refs
  value_typed kd.kind (Some t) a there is = subst (λ z. HasType reg ts z kd.kind) (same_some is) ((refl, there t refl), refl)
  value_typed kd.kind None a there is = absurd (none_some is)
  value_typed _ o a there is = absurd (cc)

  void_typed : (k : Kind) (a : Expression) → void_any_at k ≡ Some a → HasType reg ts a k
  unfolding HasType Fits refs
  void_typed kd.any a is = subst (λ z. HasType reg ts z kd.any) (same_some is) ((refl, λ same. absurd (cc), refl, refl), refl)
  void_typed _ a is = absurd (cc)

  any_typed : (k : Kind) (o : Option Kind) (content : Kind → Option Expression) (a : Expression)
      → ((t : Kind) → o ≡ Some t → (is_type reg t ≡ true) × (t ≢ kd.any))
      → ((t : Kind) (b : Expression) → is_type reg t ≡ true → content t ≡ Some b → HasType reg ts b t)
      → any_at k o content ≡ Some a → HasType reg ts a k
  unfolding HasType
  any_typed kd.any (Some t) content a there inner is =
      let from = mapped (e.any t) (content t) a is in
      let type = there t refl in
      subst (λ z. HasType reg ts z kd.any) from.is (refl, type.1, type.0, inner t from.from type.0 from.there)
  any_typed kd.any None content a there inner is = absurd (none_some is)
  any_typed _ o content a there inner is = absurd (cc)

  list_typed : (k : Kind) (all : Kind → Option Expressions) (a : Expression) → is_type reg (kd.sequence k) ≡ true → k ≢ kd.byte
      → ((es : Expressions) → all k ≡ Some es → AllHaveType reg ts es k)
      → option_map (e.list k) (all k) ≡ Some a → HasType reg ts a (kd.sequence k)
  unfolding HasType
  list_typed k all a there plain inner is =
      let from = mapped (e.list k) (all k) a is in
      subst (λ z. HasType reg ts z (kd.sequence k)) from.is (refl, plain, there, inner from.from from.there)

  elements_typed : (k : Kind) (all : Kind → Option Expressions) (a : Expression) → is_type reg k ≡ true
      → ((t : Kind) (es : Expressions) → is_type reg t ≡ true → all t ≡ Some es → AllHaveType reg ts es t)
      → elements_at k all ≡ Some a → HasType reg ts a k
  unfolding HasType
  elements_typed (kd.sequence kd.byte) all a there inner is =
      let from = mapped e.bytes (all kd.byte) a is in
      subst (λ z. HasType reg ts z (kd.sequence kd.byte)) from.is (refl, inner kd.byte from.from refl from.there)
  elements_typed (kd.sequence t) all a there inner is = list_typed t all a there (λ same. absurd (cc)) (λ es. inner t es (element_type reg t there)) is
  elements_typed _ all a there inner is = absurd (cc)

  members_typed : (k : Kind) (each : List Kind → Option Expressions) (a : Expression) → is_type reg k ≡ true
      → ((ks : List Kind) (es : Expressions) → list_all (is_type reg) ks ≡ true → each ks ≡ Some es → HaveTypes reg ts es ks)
      → members_at reg k each ≡ Some a → HasType reg ts a k
  unfolding HasType
  members_typed (kd.struct name) each a there inner is =
      let from = mapped (e.tuple name) (each (member_kinds reg name)) a is in
      subst (λ z. HasType reg ts z (kd.struct name)) from.is (inl refl, there, inner (member_kinds reg name) from.from (member_types reg sound name) from.there)
  members_typed (kd.exception name) each a there inner is =
      let from = mapped (e.tuple name) (each (member_kinds reg name)) a is in
      subst (λ z. HasType reg ts z (kd.exception name)) from.is (inr refl, there, inner (member_kinds reg name) from.from (member_types reg sound name) from.there)
  members_typed _ each a there inner is = absurd (cc)

  word_typed : (k : Kind) (w : Word) (o : Option Kind) (a : Expression) → kind_of_word c w ≡ o → word_at reg k w o ≡ Some a → HasType reg ts a k
  unfolding HasType
  word_typed k w None a known is = absurd (none_some is)
  word_typed k w (Some from) a known is =
      let fits = holds (kind_fits reg k from) (Some (e.word w)) a is in
      let typed_so : WordFits reg ts w k = record { from = from; typed = words w from known; fits = fits.0 } in
      subst (λ z. HasType reg ts z k) (same_some fits.1) typed_so

  mutual
    unfolding expression_of all_at each_at is_term are_terms HasType HaveTypes AllHaveType

    pub term_typed : (t : Term) (k : Kind) (a : Expression) → is_type reg k ≡ true → is_term reg t ≡ true → expression_of reg c t k ≡ Some a → HasType reg ts a k
    term_typed (leaf t) k a there formed is =
        let from = mapped e.constant (single reg k t) a is in
        subst (λ z. HasType reg ts z k) from.is (single_fits reg k t from.from there formed from.there)
    term_typed (type_named text) k a there formed is = value_typed k (type_of_text reg text) a (text_type reg sound text) is
    term_typed void_any k a there formed is = void_typed k a is
    term_typed (typed text x) k a there formed is =
        let parts = and_parts (is_cast text) (is_term reg x) formed in
        any_typed k (type_of_text reg text) (expression_of reg c x) a (λ t named. (text_type reg sound text t named, cast_type reg sound text t parts.0 named))
        (λ t b type to. term_typed x t b type parts.1 to) is
    term_typed (elements xs) k a there formed is = elements_typed k (all_at reg c xs) a there (λ t es type to. all_typed xs t es type formed to) is
    term_typed (members xs) k a there formed is =
        let parts = and_parts (has_members xs) (are_terms reg xs) formed in
        members_typed k (each_at reg c xs) a there (λ ks es types to. each_typed xs ks es types parts.1 to) is
    term_typed (word w) k a there formed is = word_typed k w (kind_of_word c w) a refl is
    term_typed (operation op x y) k a there formed is =
        let parts = and_parts (is_term reg x) (is_term reg y) formed in
        let whole = holds (is_whole k) (both_values (expression_of reg c x k) (expression_of reg c y k) (λ l r. Some (e.operation op l r))) a is in
        let both = both_there (expression_of reg c x k) (expression_of reg c y k) (λ l r. Some (e.operation op l r)) a whole.1 in
        subst (λ z. HasType reg ts z k) (same_some both.made)
        (whole.0, term_typed x k both.first there parts.0 both.first_is, term_typed y k both.second there parts.1 both.second_is)

    pub all_typed : (xs : Terms) (k : Kind) (es : Expressions) → is_type reg k ≡ true → are_terms reg xs ≡ true → all_at reg c xs k ≡ Some es → AllHaveType reg ts es k
    all_typed none k es there formed is = subst (λ z. AllHaveType reg ts z k) (same_some is) tt
    all_typed (more x xs) k es there formed is =
        let parts = and_parts (is_term reg x) (are_terms reg xs) formed in
        let both = both_there (expression_of reg c x k) (all_at reg c xs k) (λ a rest. Some (e.more a rest)) es is in
        subst (λ z. AllHaveType reg ts z k) (same_some both.made)
        (term_typed x k both.first there parts.0 both.first_is, all_typed xs k both.second there parts.1 both.second_is)

    pub each_typed : (xs : Terms) (ks : List Kind) (es : Expressions) → list_all (is_type reg) ks ≡ true → are_terms reg xs ≡ true → each_at reg c xs ks ≡ Some es
        → HaveTypes reg ts es ks
    each_typed none [] es there formed is = subst (λ z. HaveTypes reg ts z []) (same_some is) tt
    each_typed none (k ∷ ks) es there formed is = absurd (none_some is)
    each_typed (more x xs) [] es there formed is = absurd (none_some is)
    each_typed (more x xs) (k ∷ ks) es there formed is =
        let parts = and_parts (is_term reg x) (are_terms reg xs) formed in
        let types = and_parts (is_type reg k) (list_all (is_type reg) ks) there in
        let both = both_there (expression_of reg c x k) (each_at reg c xs ks) (λ a rest. Some (e.more a rest)) es is in
        subst (λ z. HaveTypes reg ts z (k ∷ ks)) (same_some both.made)
        (term_typed x k both.first types.0 parts.0 both.first_is, each_typed xs ks both.second types.1 parts.1 both.second_is)
