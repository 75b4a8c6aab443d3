-- What the service manager creates fits: the fields of a new object take what the arguments give for the parameters of a constructor, or have the defaults of their types.
use Rattle.std.proofs.Common.{◌≡◌, ℕ, Bool, true, false, cond, not, ◌&&◌, ◌||◌, if◌then◌else◌, List, [], ◌∷◌, map, find, Option, None, Some, refl, sym, ap, subst, ◌∙◌}
use Rattle.std.specs.List.{AllByRecursion, list_all, list_any}
use Rattle.std.specs.Option.{option_or}
use Rattle.std.specs.Str.{bytes_eq}
use Rattle.std.proofs.lemmas.Bool.{and_parts}
use Rattle.std.proofs.lemmas.Slice.Eq.{bytes_eq-Decides}
use Rattle.uno_model.specs.Codes.{same_kind}
use Rattle.uno_model.specs.Entities.{Entity, Field, Constructor}
use Rattle.uno_model.specs.Fits.{Fits, FitAll, does_fit}
use Rattle.uno_model.specs.Kinds.{Kind}
use Rattle.uno_model.specs.Kinds as kd
use Rattle.uno_model.specs.Sound.{IsSound, all_differ}
use Rattle.uno_model.specs.Values.{Plain, plains}
use Rattle.uno_model.proofs.CodeLaws.{same_kind_told}
use Rattle.uno_model.proofs.DefaultLaws.{default_fits}
use Rattle.uno_model.proofs.FitLaws.{fit_told}
use Rattle.uno_model.proofs.Options.{same_some}
use Rattle.plan_model.specs.Fitting.{has_field, has_rest_field, serves}
use Rattle.plan_model.specs.Frames.{Variable}
use Rattle.plan_model.specs.Plans.{Behaviour}
use Rattle.plan_model.specs.Services.{content_of, filled, rest_filled, all_filled, first_filled, field_value, fields_with}
use Rattle.plan_typing.specs.Scenes.{FieldsFit}
use Rattle.plan_typing.specs.Statements.{IsTypedField}
use Rattle.bridge_model.specs.Objects.{as_variables}
use Rattle.bridge_laws.proofs.JobFits.{found_all}
use Rattle.bridge_laws.proofs.MakingFits.{values_fit}

-- ---- what a constructor takes

-- a value for a field of the behaviour that has its name and type
pub record TakesPlace (reg : List Entity) (b : Behaviour) (x : Variable) : Type 0 where
  pub place : Field
  pub has : has_field b place ≡ true
  pub named : x.name ≡ place.name
  pub fits : Fits reg x.value place.kind

abbrev pub OnOne : List Entity → Behaviour → Option Variable → Type 0
OnOne reg b None = Unit
OnOne reg b (Some x) = TakesPlace reg b x

abbrev pub OnEach : List Entity → Behaviour → Option (List Variable) → Type 0
OnEach reg b None = Unit
OnEach reg b (Some xs) = AllByRecursion (TakesPlace reg b) xs

module _ (reg : List Entity) (sound : IsSound reg) (b : Behaviour) where
  content_by : (p : Field) (x : Plain) (k : Kind) (c : Bool) → p.kind ≡ k → does_fit reg x k ≡ c → has_field b p ≡ true
      → OnOne reg b (if c then Some (record { name = p.name; value = x }) else None)
  content_by p x k true is fits has =
      record { place = p; has = has; named = refl; fits = subst (Fits reg x) (sym is) ((fit_told reg sound.no_circle x k).0 fits) }
  content_by p x k false is fits has = tt

  filled_fits : (p : Field) (arg : Plain) (k : Kind) → p.kind ≡ k → has_field b p ≡ true → Fits reg arg kd.any → OnOne reg b (filled reg p arg)
  filled_fits p arg kd.any is has fits =
      let whole : TakesPlace reg b (record { name = p.name; value = arg }) = record { place = p; has = has; named = refl; fits = subst (Fits reg arg) (sym is) fits } in
      rw is whole
  filled_fits p arg k is has fits = let content = content_by p (content_of arg) k (does_fit reg (content_of arg) k) is refl has in rw is content

  rest_fits : (rest : Option (List ℕ)) (args : List Plain) → has_rest_field b rest ≡ true → FitAll reg (plains args) kd.any → OnEach reg b (rest_filled rest args)
  unfolding Fits
  rest_fits None [] has fits = tt
  rest_fits None (arg ∷ args) has fits = tt
  rest_fits (Some name) args has fits = (
    record {
      place = record { name = name; kind = kd.sequence kd.any };
      has = has;
      named = refl;
      fits = (refl, (λ is. absurd (cc)), refl, fits);
    },
    tt,
  )

  all_by : (p : Field) (ps : List Field) (rest : Option (List ℕ)) (arg : Plain) (args : List Plain) (x : Option Variable) (xs : Option (List Variable))
      → filled reg p arg ≡ x → all_filled reg ps rest args ≡ xs → OnOne reg b x → OnEach reg b xs → OnEach reg b (all_filled reg (p ∷ ps) rest (arg ∷ args))
  unfolding all_filled
  all_by p ps rest arg args None xs is are here behind = rw is tt
  all_by p ps rest arg args (Some x) None is are here behind = rw (is, are) tt
  all_by p ps rest arg args (Some x) (Some xs) is are here behind = let both : AllByRecursion (TakesPlace reg b) (x ∷ xs) = (here, behind) in rw (is, are) both

  all_fits : (ps : List Field) (rest : Option (List ℕ)) (args : List Plain) → list_all (has_field b) ps ≡ true → has_rest_field b rest ≡ true
      → FitAll reg (plains args) kd.any → OnEach reg b (all_filled reg ps rest args)
  unfolding all_filled FitAll
  all_fits [] rest args has also fits = rest_fits rest args also fits
  all_fits (p ∷ ps) rest [] has also fits = tt
  all_fits (p ∷ ps) rest (arg ∷ args) has also fits =
      let parts = and_parts (has_field b p) (list_all (has_field b) ps) has in
      all_by p ps rest arg args (filled reg p arg) (all_filled reg ps rest args) refl refl (filled_fits p arg p.kind refl parts.0 fits.0) (all_fits ps rest args parts.1 also fits.1)

  or_fits : (x y : Option (List Variable)) → OnEach reg b x → OnEach reg b y → OnEach reg b (option_or x y)
  or_fits None y here rest = rest
  or_fits (Some xs) y here rest = here

  pub first_fits : (cs : List Constructor) (args : List Plain) → list_all (serves b) cs ≡ true → FitAll reg (plains args) kd.any → OnEach reg b (first_filled reg cs args)
  unfolding first_filled
  first_fits [] args serve fits = tt
  first_fits (c ∷ cs) args serve fits =
      let parts = and_parts (serves b c) (list_all (serves b) cs) serve in
      let one = and_parts (list_all (has_field b) c.params) (has_rest_field b c.rest) parts.0 in
      or_fits (all_filled reg c.params c.rest args) (first_filled reg cs args) (all_fits c.params c.rest args one.0 one.1 fits) (first_fits cs args parts.1 fits)

-- ---- fields by their names

-- a name that is not among those of fields is none's
none_of : (name : List ℕ) (fs : List Field) → not (list_any (bytes_eq name) (map (λ f. f.name) fs)) ≡ true → AllByRecursion (λ (f : Field). bytes_eq name f.name ≡ false) fs
none_of name [] not_there = tt
none_of name (f ∷ fs) not_there = by_test (bytes_eq name f.name) refl not_there (none_of name fs)
  where
    by_test : (c : Bool) → bytes_eq name f.name ≡ c → not (c || list_any (bytes_eq name) (map (λ f. f.name) fs)) ≡ true
        → (not (list_any (bytes_eq name) (map (λ f. f.name) fs)) ≡ true → AllByRecursion (λ (f : Field). bytes_eq name f.name ≡ false) fs)
        → (bytes_eq name f.name ≡ false) × AllByRecursion (λ (f : Field). bytes_eq name f.name ≡ false) fs
    by_test true is none behind = absurd (cc)
    by_test false is none behind = (is, behind none)

all_more : {X : Type 0} (P Q : X → Type 0) → ((x : X) → P x → Q x) → (xs : List X) → AllByRecursion P xs → AllByRecursion Q xs
all_more P Q more [] all = tt
all_more P Q more (x ∷ xs) all = (more x all.0, all_more P Q more xs all.1)

same_names : (p f : Field) → bytes_eq p.name f.name ≡ true → p.name ≡ f.name
same_names p f is = (bytes_eq-Decides p.name f.name).0 is

-- where one of these is there, its name is
there_named : (p : Field) (fs : List Field) → list_any (λ f. bytes_eq p.name f.name && same_kind p.kind f.kind) fs ≡ true → list_any (bytes_eq p.name) (map (λ f. f.name) fs) ≡ true
there_named p [] is = is
there_named p (f ∷ fs) is = step (bytes_eq p.name f.name) (same_kind p.kind f.kind) (there_named p fs) is
  where
    step : (a c : Bool) → (list_any (λ f. bytes_eq p.name f.name && same_kind p.kind f.kind) fs ≡ true → list_any (bytes_eq p.name) (map (λ f. f.name) fs) ≡ true)
        → ((a && c) || list_any (λ f. bytes_eq p.name f.name && same_kind p.kind f.kind) fs) ≡ true → (a || list_any (bytes_eq p.name) (map (λ f. f.name) fs)) ≡ true
    step true c behind is = refl
    step false c behind is = behind is

-- so all fields of that name have that type
agree : (p : Field) (fs : List Field) → all_differ (map (λ f. f.name) fs) ≡ true → list_any (λ f. bytes_eq p.name f.name && same_kind p.kind f.kind) fs ≡ true
    → AllByRecursion (λ (f : Field). bytes_eq p.name f.name ≡ true → p.kind ≡ f.kind) fs
unfolding all_differ
agree p [] differ there = tt
agree p (f ∷ fs) differ there =
    by_tests (bytes_eq p.name f.name) (same_kind p.kind f.kind) refl refl
    (and_parts (not (list_any (bytes_eq f.name) (map (λ f. f.name) fs))) (all_differ (map (λ f. f.name) fs)) differ)
    (agree p fs) there
  where
    no_clash : {X : Type 0} (c : Bool) → c ≡ true → c ≡ false → X
    no_clash true is not_is = absurd (cc)
    no_clash false is not_is = absurd (cc)

    by_tests : (a c : Bool) → bytes_eq p.name f.name ≡ a → same_kind p.kind f.kind ≡ c
        → (not (list_any (bytes_eq f.name) (map (λ f. f.name) fs)) ≡ true) × (all_differ (map (λ f. f.name) fs) ≡ true)
        → (all_differ (map (λ f. f.name) fs) ≡ true → list_any (λ f. bytes_eq p.name f.name && same_kind p.kind f.kind) fs ≡ true
        → AllByRecursion (λ (f : Field). bytes_eq p.name f.name ≡ true → p.kind ≡ f.kind) fs)
        → ((a && c) || list_any (λ f. bytes_eq p.name f.name && same_kind p.kind f.kind) fs) ≡ true
        → (bytes_eq p.name f.name ≡ true → p.kind ≡ f.kind) × AllByRecursion (λ (f : Field). bytes_eq p.name f.name ≡ true → p.kind ≡ f.kind) fs
    by_tests true true named typed differs behind there =
        let name = same_names p f named in
        let none = none_of p.name fs (subst (λ n. not (list_any (bytes_eq n) (map (λ f. f.name) fs)) ≡ true) (sym name) differs.0) in
        ((λ is. (same_kind_told p.kind f.kind).0 typed), all_more (λ (h : Field). bytes_eq p.name h.name ≡ false) (λ (h : Field). bytes_eq p.name h.name ≡ true → p.kind ≡ h.kind) (λ h other is. no_clash (bytes_eq p.name h.name) is other) fs none)
    by_tests true false named typed differs behind there =
        let name = same_names p f named in
        let again = there_named p fs there in
        let none = ap (λ n. not (list_any (bytes_eq n) (map (λ (h : Field). h.name) fs))) (sym name) in
        let bad : not true ≡ true = ap not (sym again) ∙ (sym none ∙ differs.0) in absurd (cc)
    by_tests false c named typed differs behind there = ((λ is. no_clash (bytes_eq p.name f.name) is named), behind differs.1 there)

all_swap : {X Y : Type 0} (R : Y → Type 0) (Q : Y → X → Type 0) (xs : List X) → ((y : Y) → R y → AllByRecursion (Q y) xs) → AllByRecursion (λ x. (y : Y) → R y → Q y x) xs
all_swap R Q [] each = tt
all_swap R Q (x ∷ xs) each = ((λ y r. (each y r).0), all_swap R Q xs (λ y r. (each y r).1))

module _ (reg : List Entity) (sound : IsSound reg) (b : Behaviour) (differ : all_differ (map (λ f. f.name) b.fields) ≡ true) (xs : List Variable) (all : AllByRecursion (TakesPlace reg b) xs) where
  -- where a place of the behaviour has a field's name, it has its type
  abbrev Agrees : Field → Type 0
  Agrees f = (p : Field) → has_field b p ≡ true → bytes_eq p.name f.name ≡ true → p.kind ≡ f.kind

  all_agree : AllByRecursion Agrees b.fields
  all_agree = all_swap (λ p. has_field b p ≡ true) (λ p f. bytes_eq p.name f.name ≡ true → p.kind ≡ f.kind) b.fields (λ p has. agree p b.fields differ has)

  named_so : (f : Field) (x : Variable) → find (λ x. bytes_eq f.name x.name) xs ≡ Some x → bytes_eq f.name x.name ≡ true
  named_so f x is = found_test (λ x. bytes_eq f.name x.name) xs is
    where
      found_test : (test : Variable → Bool) (ys : List Variable) → find test ys ≡ Some x → test x ≡ true
      found_test test [] found = absurd (cc)
      found_test test (y ∷ ys) found = step (test y) refl (found_test test ys) found
        where
          step : (c : Bool) → test y ≡ c → (find test ys ≡ Some x → test x ≡ true) → cond c (Some y) (find test ys) ≡ Some x → test x ≡ true
          step true told behind found = subst (λ z. test z ≡ true) (same_some found) told
          step false told behind found = behind found

  value_by : (f : Field) (o : Option Variable) → find (λ x. bytes_eq f.name x.name) xs ≡ o → IsTypedField reg f → Agrees f → Fits reg (field_value reg xs f) f.kind
  value_by f None is typed agrees = let default = default_fits reg sound f.kind typed in rw is default
  value_by f (Some x) is typed agrees =
      let takes = found_all (TakesPlace reg b) (λ x. bytes_eq f.name x.name) xs x all is in
      let name = (bytes_eq-Decides f.name x.name).0 (named_so f x is) in
      let same = (bytes_eq-Decides takes.place.name f.name).1 (sym takes.named ∙ sym name) in
      let value = subst (Fits reg x.value) (agrees takes.place takes.has same) takes.fits in
      rw is value

  fields_each : (fs : List Field) → AllByRecursion (IsTypedField reg) fs → AllByRecursion Agrees fs → AllByRecursion (λ f. Fits reg (field_value reg xs f) f.kind) fs
  fields_each [] typed agrees = tt
  fields_each (f ∷ fs) typed agrees = (value_by f (find (λ x. bytes_eq f.name x.name) xs) refl typed.0 agrees.0, fields_each fs typed.1 agrees.1)

  pub fields_fit : AllByRecursion (IsTypedField reg) b.fields → FieldsFit reg (as_variables b.fields (fields_with reg xs b.fields)) b.fields
  unfolding fields_with
  fields_fit typed = values_fit reg (field_value reg xs) b.fields (fields_each b.fields typed all_agree)
