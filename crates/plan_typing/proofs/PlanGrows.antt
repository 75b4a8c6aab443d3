-- A line leaves each behaviour that stands before it at its place, with its faces.
use Rattle.std.proofs.Common.{◌≡◌, refl, sym, ap, ◌∙◌, ℕ, zero, suc, Bool, true, false, List, [], ◌∷◌, ◌++◌, Option, None, Some, slice_get, append-nil}
use mathlib.Core.Path.{subst}
use Rattle.uno_model.specs.Entities.{Entity, Field}
use Rattle.uno_model.specs.Functions.{Function}
use Rattle.uno_model.specs.Kinds.{Kind}
use Rattle.uno_model.specs.NamedTypes.{type_of_text}
use Rattle.uno_model.proofs.Options.{same_some, none_some}
use Rattle.plan_model.specs.Building.{with_result, behind_statement, behind_root_statement, with_statement, with_root_statement, with_line}
use Rattle.plan_model.specs.Building.{opens_method, with_field, with_service, with_singleton, with_export, behind, behind_all}
use Rattle.plan_model.specs.Contexts.{Scoped, Block, at_top, in_behaviour, in_method, in_thread, Context, open_behaviours, behaviours_before, behaviour_number, declared_function}
use Rattle.plan_model.specs.LinePlaces.{may_stand}
use Rattle.plan_model.specs.Lines.{Line}
use Rattle.plan_model.specs.Lines as line
use Rattle.plan_model.specs.Plans.{Plan, Behaviour, Method}
use Rattle.plan_model.specs.Statements.{Statement, RootStatement}
use Rattle.plan_model.specs.Statements as s
use Rattle.plan_model.specs.TypedStatements.{statement_of, root_statement_of}
use Rattle.plan_typing.proofs.LineCalls.{StandsFor}

-- ---- behaviours at their places

-- each at its place, with the same faces, and others behind them
abbrev pub Grows : List Behaviour → List Behaviour → Type 0
Grows [] cs = Unit
Grows (b ∷ bs) [] = ⊥
Grows (b ∷ bs) (c ∷ cs) = (c.faces ≡ b.faces) × Grows bs cs

pub same_grow : (bs : List Behaviour) → Grows bs bs
same_grow [] = tt
same_grow (b ∷ bs) = (refl, same_grow bs)

pub as_they_are : (bs cs : List Behaviour) → cs ≡ bs → Grows bs cs
as_they_are bs cs is = subst (Grows bs) (sym is) (same_grow bs)

pub grow_on : (bs cs ds : List Behaviour) → Grows bs cs → Grows cs ds → Grows bs ds
grow_on [] cs ds first second = tt
grow_on (b ∷ bs) [] ds first second = absurd first
grow_on (b ∷ bs) (c ∷ cs) [] first second = absurd second
grow_on (b ∷ bs) (c ∷ cs) (d ∷ ds) first second = (second.0 ∙ first.0, grow_on bs cs ds first.1 second.1)

grow_behind : (bs xs ys : List Behaviour) → Grows xs ys → Grows (bs ++ xs) (bs ++ ys)
grow_behind [] xs ys is = is
grow_behind (b ∷ bs) xs ys is = (refl, grow_behind bs xs ys is)

pub grown_stands : (plan : Plan) (bs : List Behaviour) (n : ℕ) (b : Behaviour) → Grows bs plan.behaviours → slice_get bs n ≡ Some b → StandsFor plan n b
grown_stands plan bs n b = within bs plan.behaviours n
  where
    at_first : (x y : Behaviour) (ys : List Behaviour) → y.faces ≡ x.faces → Some x ≡ Some b → (d : Behaviour) × (slice_get (y ∷ ys) 0 ≡ Some d) × (d.faces ≡ b.faces)
    at_first x y ys faces is = (y, refl, faces ∙ ap (λ z. z.faces) (same_some is))

    find_it : (xs ys : List Behaviour) (at : ℕ) → Grows xs ys → slice_get xs at ≡ Some b → (d : Behaviour) × (slice_get ys at ≡ Some d) × (d.faces ≡ b.faces)
    find_it [] ys at grown is = absurd (none_some is)
    find_it (x ∷ xs) [] at grown is = absurd grown
    find_it (x ∷ xs) (y ∷ ys) zero grown is = at_first x y ys grown.0 is
    find_it (x ∷ xs) (y ∷ ys) (suc at) grown is = find_it xs ys at grown.1 is

    within : (xs ys : List Behaviour) (at : ℕ) → Grows xs plan.behaviours → slice_get xs at ≡ Some b → StandsFor plan at b
    within xs ys at grown is = let one = find_it xs plan.behaviours at grown is in record { behaviour = one.0; found = one.1; faces = one.2 }

-- ---- statements change variables alone

module _ (q : Plan) (bl : Block) (vs : List Scoped) where
  -- the plan and the block are these
  abbrev pub Stays : Context → Type 0
  Stays c = (c.plan ≡ q) × (c.block ≡ bl)

  result_stays : (to : Option Field) → Stays (with_result to (record { plan = q; block = bl; variables = vs }))
  result_stays None = (refl, refl)
  result_stays (Some x) = (refl, refl)

  pub statement_stays : (x : Statement) → Stays (behind_statement x (record { plan = q; block = bl; variables = vs }))
  statement_stays (s.let_variable f a) = (refl, refl)
  statement_stays (s.call c) = result_stays c.to
  statement_stays (s.query y) = (refl, refl)
  statement_stays (s.make m) = (refl, refl)
  statement_stays (s.drop_variable name) = (refl, refl)
  statement_stays _ = (refl, refl)

  pub root_statement_stays : (x : RootStatement) → Stays (behind_root_statement x (record { plan = q; block = bl; variables = vs }))
  root_statement_stays (s.ask to wanted name) = (refl, refl)
  root_statement_stays (s.ask_instance to wanted) = (refl, refl)
  root_statement_stays (s.root_call c) = result_stays c.to
  root_statement_stays (s.root_query y) = (refl, refl)
  root_statement_stays (s.root_make m) = (refl, refl)
  root_statement_stays (s.root_drop name) = (refl, refl)
  root_statement_stays _ = (refl, refl)

-- what stays has the same behaviours
stays_before : (q : Plan) (bl : Block) (c : Context) → Stays q bl [] c → behaviours_before c ≡ q.behaviours ++ open_behaviours bl
stays_before q bl c stays = rw (stays.0, stays.1) refl

-- ---- lines

module _ (reg : List Entity) (q : Plan) (vs : List Scoped) where
  -- statements of a method and of a root
  method_grows : (b : Behaviour) (m : Method) (f : Function) (o : Option Statement) (c : Context) → c ≡ record { plan = q; block = in_method b m f; variables = vs }
      → Grows (q.behaviours ++ b ∷ []) (behaviours_before (with_statement b m f o c))
  method_grows b m f None c is = as_they_are (q.behaviours ++ b ∷ []) (behaviours_before c) (ap behaviours_before is)
  method_grows b m f (Some x) c is =
      let n : Method = record m { body = m.body ++ x ∷ [] } in
      let stays = statement_stays q (in_method b n f) vs x in
      let same : behaviours_before (with_statement b m f (Some x) c) ≡ q.behaviours ++ b ∷ [] =
      ap (λ d. behaviours_before (with_statement b m f (Some x) d)) is ∙ stays_before q (in_method b n f) (behind_statement x (record { plan = q; block = in_method b n f; variables = vs })) stays
      in
      as_they_are (q.behaviours ++ b ∷ []) (behaviours_before (with_statement b m f (Some x) c)) same

  root_grows : (ss : List RootStatement) (o : Option RootStatement) (c : Context) → c ≡ record { plan = q; block = in_thread ss; variables = vs }
      → Grows (q.behaviours ++ []) (behaviours_before (with_root_statement ss o c))
  root_grows ss None c is = as_they_are (q.behaviours ++ []) (behaviours_before c) (ap behaviours_before is)
  root_grows ss (Some x) c is =
      let stays = root_statement_stays q (in_thread (ss ++ x ∷ [])) vs x in
      let same : behaviours_before (with_root_statement ss (Some x) c) ≡ q.behaviours ++ [] =
      ap (λ d. behaviours_before (with_root_statement ss (Some x) d)) is ∙ stays_before q (in_thread (ss ++ x ∷ [])) (behind_root_statement x (record { plan = q; block = in_thread (ss ++ x ∷ []); variables = vs })) stays
      in
      as_they_are (q.behaviours ++ []) (behaviours_before (with_root_statement ss (Some x) c)) same

  -- the names of the top
  pub service_grows : (o : Option ℕ) (name : List ℕ) → (with_service o name q).behaviours ≡ q.behaviours
  service_grows None name = refl
  service_grows (Some n) name = refl

  pub singleton_grows : (o : Option ℕ) (name : List ℕ) → (with_singleton o name q).behaviours ≡ q.behaviours
  singleton_grows None name = refl
  singleton_grows (Some n) name = refl

  pub export_grows : (o : Option ℕ) (name : List ℕ) → (with_export o name q).behaviours ≡ q.behaviours
  export_grows None name = refl
  export_grows (Some n) name = refl

  -- fields and methods
  field_grows : (b : Behaviour) (name : List ℕ) (o : Option Kind) (c : Context) → c ≡ record { plan = q; block = in_behaviour b; variables = vs }
      → Grows (q.behaviours ++ b ∷ []) (behaviours_before (with_field (in_behaviour b) name o c))
  field_grows b name None c is = as_they_are (q.behaviours ++ b ∷ []) (behaviours_before c) (ap behaviours_before is)
  field_grows b name (Some k) c is =
      let d : Behaviour = record b { fields = b.fields ++ record { name = name; kind = k } ∷ [] } in
      subst (λ y. Grows (q.behaviours ++ b ∷ []) (behaviours_before (with_field (in_behaviour b) name (Some k) y))) (sym is)
      (grow_behind q.behaviours (b ∷ []) (d ∷ []) (refl, tt))

  opens_grows : (b : Behaviour) (face function : List ℕ) (o : Option Function) (c : Context) → c ≡ record { plan = q; block = in_behaviour b; variables = vs }
      → Grows (q.behaviours ++ b ∷ []) (behaviours_before (opens_method (in_behaviour b) face function o c))
  opens_grows b face function None c is = as_they_are (q.behaviours ++ b ∷ []) (behaviours_before c) (ap behaviours_before is)
  opens_grows b face function (Some f) c is = as_they_are (q.behaviours ++ b ∷ []) _ (ap (λ d. d.plan.behaviours ++ b ∷ []) is)

  pub line_grows : (bl : Block) (l : Line) → may_stand bl l ≡ true
      → Grows (q.behaviours ++ open_behaviours bl) (behaviours_before (behind reg l (record { plan = q; block = bl; variables = vs })))
  unfolding may_stand behind
  line_grows at_top (line.behaviour name faces) is = grow_behind q.behaviours [] (_ ∷ []) tt
  line_grows at_top (line.service name b) is =
      as_they_are (q.behaviours ++ []) _ (ap (λ bs. bs ++ []) (service_grows (behaviour_number (record { plan = q; block = at_top; variables = vs }) b) name))
  line_grows at_top (line.singleton name b) is =
      as_they_are (q.behaviours ++ []) _ (ap (λ bs. bs ++ []) (singleton_grows (behaviour_number (record { plan = q; block = at_top; variables = vs }) b) name))
  line_grows at_top (line.export name b) is =
      as_they_are (q.behaviours ++ []) _ (ap (λ bs. bs ++ []) (export_grows (behaviour_number (record { plan = q; block = at_top; variables = vs }) b) name))
  line_grows at_top line.thread is = same_grow (q.behaviours ++ [])
  line_grows at_top _ is = absurd (cc)
  line_grows (in_behaviour b) (line.field d) is = field_grows b d.name (type_of_text reg d.kind) (record { plan = q; block = in_behaviour b; variables = vs }) refl
  line_grows (in_behaviour b) (line.method face function) is =
      opens_grows b face function (declared_function reg face function) (record { plan = q; block = in_behaviour b; variables = vs }) refl
  line_grows (in_behaviour b) line.end_line is = as_they_are (q.behaviours ++ b ∷ []) ((q.behaviours ++ b ∷ []) ++ []) (append-nil (q.behaviours ++ b ∷ []))
  line_grows (in_behaviour b) _ is = absurd (cc)
  line_grows (in_method b m f) (line.behaviour name faces) is = absurd (cc)
  line_grows (in_method b m f) (line.field d) is = absurd (cc)
  line_grows (in_method b m f) (line.method face function) is = absurd (cc)
  line_grows (in_method b m f) (line.service name x) is = absurd (cc)
  line_grows (in_method b m f) (line.singleton name x) is = absurd (cc)
  line_grows (in_method b m f) (line.export name x) is = absurd (cc)
  line_grows (in_method b m f) line.thread is = absurd (cc)
  line_grows (in_method b m f) line.end_line is = grow_behind q.behaviours (b ∷ []) (_ ∷ []) (refl, tt)
  line_grows (in_method b m f) l is =
      method_grows b m f (statement_of reg (record { plan = q; block = in_method b m f; variables = vs }) l) (record { plan = q; block = in_method b m f; variables = vs }) refl
  line_grows (in_thread ss) (line.behaviour name faces) is = absurd (cc)
  line_grows (in_thread ss) (line.field d) is = absurd (cc)
  line_grows (in_thread ss) (line.method face function) is = absurd (cc)
  line_grows (in_thread ss) (line.service name x) is = absurd (cc)
  line_grows (in_thread ss) (line.singleton name x) is = absurd (cc)
  line_grows (in_thread ss) (line.export name x) is = absurd (cc)
  line_grows (in_thread ss) line.thread is = absurd (cc)
  line_grows (in_thread ss) line.end_line is = same_grow (q.behaviours ++ [])
  line_grows (in_thread ss) l is =
      root_grows ss (root_statement_of reg (record { plan = q; block = in_thread ss; variables = vs }) l) (record { plan = q; block = in_thread ss; variables = vs }) refl
