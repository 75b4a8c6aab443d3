-- What a line does, step by step.
use Rattle.std.proofs.Common.{◌≡◌, Bool, true, false, List, refl, ap, ◌∙◌, Option, None, Some, arith}
use Rattle.std.specs.Prelude.{is_some}
use Rattle.plan_model.specs.Building.{behind, with_line, with_result, behind_statement, behind_root_statement}
use Rattle.plan_model.specs.Contexts.{Scoped, Context, Block, at_top, in_behaviour, in_method, in_thread}
use Rattle.plan_model.specs.Fitting.{all_fits, statement_fits}
use Rattle.plan_model.specs.Forms.{is_line}
use Rattle.plan_model.specs.Keeps.{reason_of, has_form}
use Rattle.plan_model.specs.Limits.{keeps_limits, plan_has_room, terms_are_flat}
use Rattle.plan_model.specs.Lines.{Line}
use Rattle.plan_model.specs.Lines as line
use Rattle.plan_model.specs.Plans.{Plan}
use Rattle.plan_model.specs.Statements as s
use Rattle.plan_model.specs.TypedStatements.{statement_of, root_statement_of}
use Rattle.plan_model.specs.declared.line_reason.LineReason.{LineReason}
use Rattle.plan_model.specs.declared.line_reason.LineReason.TheVariants.{Limit}
use Rattle.uno_model.specs.Entities.{Entity, Field}
use Rattle.behaviour_text.specs.Steps.{scoped_behind, scoped_behind_root, scoped_result, early_reason, late_reason, by_found, is_statement, is_thread, with_method_statement, with_thread_statement}

-- ---- variables

result_scoped : (to : Option Field) (c : Context) → with_result to c ≡ record c { variables = scoped_result to c.variables }
result_scoped None c = refl
result_scoped (Some f) c = refl

pub scoped_is : (t : s.Statement) (c : Context) → behind_statement t c ≡ record c { variables = scoped_behind t c.variables }
scoped_is (s.let_variable f a) c = refl
scoped_is (s.set_variable name a) c = refl
scoped_is (s.set_field name a) c = refl
scoped_is (s.call x) c = result_scoped x.to c
scoped_is (s.query q) c = refl
scoped_is (s.make m) c = refl
scoped_is (s.drop_variable name) c = refl
scoped_is (s.when t back) c = refl
scoped_is (s.return back) c = refl
scoped_is (s.raise name a) c = refl
scoped_is s.dispose c = refl

pub root_scoped_is : (t : s.RootStatement) (c : Context) → behind_root_statement t c ≡ record c { variables = scoped_behind_root t c.variables }
root_scoped_is (s.ask to wanted name) c = refl
root_scoped_is (s.ask_instance to wanted) c = refl
root_scoped_is (s.root_call x) c = result_scoped x.to c
root_scoped_is (s.root_query q) c = refl
root_scoped_is (s.root_make m) c = refl
root_scoped_is (s.root_drop name) c = refl
root_scoped_is (s.same x y) c = refl
root_scoped_is s.root_dispose c = refl

-- ---- statements

behind_is : (reg : List Entity) (l : Line) (c : Context) → is_statement l ≡ true → behind reg l c ≡ with_line reg l c
unfolding behind
behind_is reg (line.behaviour name faces) c is = absurd cc
behind_is reg (line.field d) c is = absurd cc
behind_is reg (line.method face function) c is = absurd cc
behind_is reg (line.service name b) c is = absurd cc
behind_is reg (line.singleton name b) c is = absurd cc
behind_is reg (line.export name b) c is = absurd cc
behind_is reg line.thread c is = absurd cc
behind_is reg line.end_line c is = absurd cc
behind_is reg (line.let_variable d t) c is = refl
behind_is reg (line.set_variable name t) c is = refl
behind_is reg (line.set_field name t) c is = refl
behind_is reg (line.call to target function args) c is = refl
behind_is reg (line.query d target) c is = refl
behind_is reg (line.make d b) c is = refl
behind_is reg (line.drop_variable name) c is = refl
behind_is reg (line.when left comparison right back) c is = refl
behind_is reg (line.return back) c is = refl
behind_is reg (line.raise k t) c is = refl
behind_is reg line.dispose c is = refl
behind_is reg (line.ask d name) c is = refl
behind_is reg (line.ask_instance d) c is = refl
behind_is reg (line.same x y) c is = refl

fits_is : (reg : List Entity) (l : Line) (c : Context) → is_statement l ≡ true → all_fits reg c l ≡ statement_fits reg c l c.block
unfolding all_fits
fits_is reg (line.behaviour name faces) c is = absurd cc
fits_is reg (line.field d) c is = absurd cc
fits_is reg (line.method face function) c is = absurd cc
fits_is reg (line.service name b) c is = absurd cc
fits_is reg (line.singleton name b) c is = absurd cc
fits_is reg (line.export name b) c is = absurd cc
fits_is reg line.thread c is = absurd cc
fits_is reg line.end_line c is = absurd cc
fits_is reg (line.let_variable d t) c is = refl
fits_is reg (line.set_variable name t) c is = refl
fits_is reg (line.set_field name t) c is = refl
fits_is reg (line.call to target function args) c is = refl
fits_is reg (line.query d target) c is = refl
fits_is reg (line.make d b) c is = refl
fits_is reg (line.drop_variable name) c is = refl
fits_is reg (line.when left comparison right back) c is = refl
fits_is reg (line.return back) c is = refl
fits_is reg (line.raise k t) c is = refl
fits_is reg line.dispose c is = refl
fits_is reg (line.ask d name) c is = refl
fits_is reg (line.ask_instance d) c is = refl
fits_is reg (line.same x y) c is = refl

line_in_method : (reg : List Entity) (l : Line) (p : Plan) (b : Block) (xs : List Scoped) → is_thread b ≡ false
    → with_line reg l (record { plan = p; block = b; variables = xs })
    ≡ with_method_statement (statement_of reg (record { plan = p; block = b; variables = xs }) l) (record { plan = p; block = b; variables = xs })
line_in_method reg l p at_top xs other = refl
line_in_method reg l p (in_behaviour b) xs other = refl
line_in_method reg l p (in_method b m f) xs other = refl
line_in_method reg l p (in_thread ss) xs other = absurd cc

line_in_thread : (reg : List Entity) (l : Line) (p : Plan) (b : Block) (xs : List Scoped) → is_thread b ≡ true
    → with_line reg l (record { plan = p; block = b; variables = xs })
    ≡ with_thread_statement (root_statement_of reg (record { plan = p; block = b; variables = xs }) l) (record { plan = p; block = b; variables = xs })
line_in_thread reg l p at_top xs is = absurd cc
line_in_thread reg l p (in_behaviour b) xs is = absurd cc
line_in_thread reg l p (in_method b m f) xs is = absurd cc
line_in_thread reg l p (in_thread ss) xs is = refl

pub behind_in_method : (reg : List Entity) (l : Line) (c : Context) → is_statement l ≡ true → is_thread c.block ≡ false → behind reg l c ≡ with_method_statement (statement_of reg c l) c
behind_in_method reg l c is other = behind_is reg l c is ∙ line_in_method reg l c.plan c.block c.variables other

pub behind_in_thread : (reg : List Entity) (l : Line) (c : Context) → is_statement l ≡ true → is_thread c.block ≡ true → behind reg l c ≡ with_thread_statement (root_statement_of reg c l) c
behind_in_thread reg l c is there = behind_is reg l c is ∙ line_in_thread reg l c.plan c.block c.variables there

fits_in_method : (reg : List Entity) (c : Context) (l : Line) (b : Block) → is_thread b ≡ false → statement_fits reg c l b ≡ is_some (statement_of reg c l)
fits_in_method reg c l at_top other = refl
fits_in_method reg c l (in_behaviour b) other = refl
fits_in_method reg c l (in_method b m f) other = refl
fits_in_method reg c l (in_thread ss) other = absurd cc

fits_in_thread : (reg : List Entity) (c : Context) (l : Line) (b : Block) → is_thread b ≡ true → statement_fits reg c l b ≡ is_some (root_statement_of reg c l)
fits_in_thread reg c l at_top is = absurd cc
fits_in_thread reg c l (in_behaviour b) is = absurd cc
fits_in_thread reg c l (in_method b m f) is = absurd cc
fits_in_thread reg c l (in_thread ss) is = refl

pub late_in_method : (reg : List Entity) (l : Line) (c : Context) → is_statement l ≡ true → is_thread c.block ≡ false → late_reason reg c l ≡ by_found (is_some (statement_of reg c l)) c l
late_in_method reg l c is other = ap (λ found. by_found found c l) (fits_is reg l c is ∙ fits_in_method reg c l c.block other)

pub late_in_thread : (reg : List Entity) (l : Line) (c : Context) → is_statement l ≡ true → is_thread c.block ≡ true → late_reason reg c l ≡ by_found (is_some (root_statement_of reg c l)) c l
late_in_thread reg l c is there = ap (λ found. by_found found c l) (fits_is reg l c is ∙ fits_in_thread reg c l c.block there)

-- ---- reasons

-- the reasons are the early ones, and where there is none of these the late ones
abbrev pub or_late : Option LineReason → Option LineReason → Option LineReason
or_late (Some why) later = Some why
or_late None later = later

-- of a line that is well formed
pub reasons : (reg : List Entity) (c : Context) (l : Line) → is_line reg l ≡ true → reason_of reg c l ≡ or_late (early_reason reg c l) (late_reason reg c l)
unfolding reason_of has_form
reasons reg c l formed = grind (arith, formed)

-- where there is no early one
pub late_only : (reg : List Entity) (c : Context) (l : Line) → is_line reg l ≡ true → early_reason reg c l ≡ None → reason_of reg c l ≡ late_reason reg c l
late_only reg c l formed early = reasons reg c l formed ∙ ap (λ r. or_late r (late_reason reg c l)) early

-- ---- limits

module _ (c : Context) (l : Line) where
  pub too_deep : (found : Bool) → found ≡ true → terms_are_flat l ≡ false → by_found found c l ≡ Some Limit
  unfolding keeps_limits
  too_deep found fits deep = rw (fits, deep) refl

  pub no_room : (found : Bool) → found ≡ true → terms_are_flat l ≡ true → plan_has_room c l ≡ false → by_found found c l ≡ Some Limit
  unfolding keeps_limits
  no_room found fits flat full = rw (fits, flat, full) refl

  pub all_kept : (found : Bool) → found ≡ true → terms_are_flat l ≡ true → plan_has_room c l ≡ true → by_found found c l ≡ None
  unfolding keeps_limits
  all_kept found fits flat room = rw (fits, flat, room) refl

-- a line that is no statement has no terms
flat_block : (l : Line) → is_statement l ≡ false → terms_are_flat l ≡ true
unfolding terms_are_flat
flat_block (line.behaviour name faces) other = refl
flat_block (line.field d) other = refl
flat_block (line.method face function) other = refl
flat_block (line.service name b) other = refl
flat_block (line.singleton name b) other = refl
flat_block (line.export name b) other = refl
flat_block line.thread other = refl
flat_block line.end_line other = refl
flat_block (line.let_variable d t) other = absurd cc
flat_block (line.set_variable name t) other = absurd cc
flat_block (line.set_field name t) other = absurd cc
flat_block (line.call to target function args) other = absurd cc
flat_block (line.query d target) other = absurd cc
flat_block (line.make d b) other = absurd cc
flat_block (line.drop_variable name) other = absurd cc
flat_block (line.when left comparison right back) other = absurd cc
flat_block (line.return back) other = absurd cc
flat_block (line.raise k t) other = absurd cc
flat_block line.dispose other = absurd cc
flat_block (line.ask d name) other = absurd cc
flat_block (line.ask_instance d) other = absurd cc
flat_block (line.same x y) other = absurd cc

pub block_full : (reg : List Entity) (c : Context) (l : Line) → is_statement l ≡ false → all_fits reg c l ≡ true → plan_has_room c l ≡ false → late_reason reg c l ≡ Some Limit
block_full reg c l other fits full = no_room c l (all_fits reg c l) fits (flat_block l other) full

pub block_kept : (reg : List Entity) (c : Context) (l : Line) → is_statement l ≡ false → all_fits reg c l ≡ true → plan_has_room c l ≡ true → late_reason reg c l ≡ None
block_kept reg c l other fits room = all_kept c l (all_fits reg c l) fits (flat_block l other) room
