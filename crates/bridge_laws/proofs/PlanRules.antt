-- In a plan that keeps the rules, what services and singletons give out is of behaviours that fit, fields of a behaviour have different names, and there are not too many of each.
use Rattle.std.proofs.Common.{◌≡◌, refl, ap, subst, Bool, true, false, not, List, [], ◌∷◌, ◌++◌, length, Option, None, Some, append-nil, if◌then◌else◌, arith}
use Rattle.std.proofs.lemmas.Bool.{and_parts, ltb-true}
use Rattle.uno_model.specs.BuiltIn.{HasBuiltIn}
use Rattle.uno_model.specs.Entities.{Entity}
use Rattle.uno_model.specs.Functions.{Function}
use Rattle.uno_model.specs.NamedTypes.{type_of_text}
use Rattle.uno_model.specs.Sound.{IsSound, is_there, all_differ}
use Rattle.plan_model.specs.Building.{behind, behind_all}
use Rattle.plan_model.specs.Contexts.{Scoped, Block, at_top, in_behaviour, in_method, in_thread, Context, behaviour_number, declared_function, opening}
use Rattle.plan_model.specs.Fitting.{all_fits}
use Rattle.plan_model.specs.Keeps.{has_form, reason_of, first_wrong, KeepsTheRules}
use Rattle.plan_model.specs.KnownNames.{is_new_service, is_new_singleton, names_are_known}
use Rattle.plan_model.specs.Limits.{has_room, plan_has_room, keeps_limits, terms_are_flat}
use Rattle.plan_model.specs.LinePlaces.{may_stand}
use Rattle.plan_model.specs.Lines.{Line}
use Rattle.plan_model.specs.Lines as line
use Rattle.plan_model.specs.NewNames.{names_are_new}
use Rattle.plan_model.specs.Plans.{Plan, Behaviour, Method}
use Rattle.plan_model.specs.Statements.{RootStatement}
use Rattle.plan_model.specs.TypedStatements.{statement_of, root_statement_of}
use Rattle.plan_model.specs.declared.line_reason.LineReason.{LineReason}
use Rattle.plan_typing.proofs.PlanLaws.{right_parts}
use Rattle.bridge_laws.proofs.PlanOffers.{Offered, service_offered, singleton_offered, export_offered, other_block, field_offered, opens_offered, behaviour_closed, thread_closed, method_offered, root_offered}

module _ (reg : List Entity) (sound : IsSound reg) (built : HasBuiltIn reg) where
  -- ---- each line

  -- what of the rules is asked of a line
  record Ruled (c : Context) (l : Line) : Type 0 where
    stands : may_stand c.block l ≡ true
    known : names_are_known reg c l ≡ true
    new : names_are_new c l ≡ true
    fits : all_fits reg c l ≡ true
    room : plan_has_room c l ≡ true

  abbrev After : Context → Line → Type 0
  After c l = Offered reg (behind reg l c).plan (behind reg l c).block

  top_step : (q : Plan) (vs : List Scoped) (l : Line) → Ruled (record { plan = q; block = at_top; variables = vs }) l → Offered reg q at_top → After (record { plan = q; block = at_top; variables = vs }) l
  unfolding may_stand behind names_are_known all_fits plan_has_room has_room all_differ
  top_step q vs (line.behaviour name faces) ruled is =
      let few = ltb-true (length (q.behaviours ++ [])) 256 ruled.room in let long = ap length (append-nil q.behaviours) in
      other_block reg sound built q at_top (in_behaviour (record { name = name; faces = faces; fields = []; methods = [] })) (refl, tt) (omega arith) is.threads is
  top_step q vs (line.service name b) ruled is =
      let known = and_parts (is_there reg is_new_service name) _ ruled.known in
      service_offered reg sound built q vs name b (behaviour_number (record { plan = q; block = at_top; variables = vs }) b) refl known.0 ruled.fits is
  top_step q vs (line.singleton name b) ruled is =
      let known = and_parts (is_there reg is_new_singleton name) _ ruled.known in
      singleton_offered reg sound built q vs name b (behaviour_number (record { plan = q; block = at_top; variables = vs }) b) refl known.0 ruled.fits (ltb-true (length q.singletons) 256 ruled.room) is
  top_step q vs (line.export name b) ruled is =
      export_offered reg sound built q name (behaviour_number (record { plan = q; block = at_top; variables = vs }) b) (ltb-true (length q.exports) 256 ruled.room) is
  top_step q vs line.thread ruled is =
      let few = ltb-true (length q.threads) 32 ruled.room in
      other_block reg sound built q at_top (in_thread []) tt is.behaviours (omega arith) is
  top_step q vs _ ruled is = let bad : false ≡ true = ruled.stands in absurd (cc)

  behaviour_step : (q : Plan) (vs : List Scoped) (b : Behaviour) (l : Line) → Ruled (record { plan = q; block = in_behaviour b; variables = vs }) l → Offered reg q (in_behaviour b)
      → After (record { plan = q; block = in_behaviour b; variables = vs }) l
  unfolding may_stand behind names_are_new
  behaviour_step q vs b (line.field d) ruled is = field_offered reg sound built q vs b d.name (type_of_text reg d.kind) ruled.new is
  behaviour_step q vs b (line.method face function) ruled is = opens_offered reg sound built q vs b face function (declared_function reg face function) is
  behaviour_step q vs b line.end_line ruled is = behaviour_closed reg sound built q b is
  behaviour_step q vs b _ ruled is = let bad : false ≡ true = ruled.stands in absurd (cc)

  method_step : (q : Plan) (vs : List Scoped) (b : Behaviour) (m : Method) (f : Function) (l : Line) → Ruled (record { plan = q; block = in_method b m f; variables = vs }) l
      → Offered reg q (in_method b m f) → After (record { plan = q; block = in_method b m f; variables = vs }) l
  unfolding may_stand behind
  method_step q vs b m f (line.behaviour name faces) ruled is = let bad : false ≡ true = ruled.stands in absurd (cc)
  method_step q vs b m f (line.field d) ruled is = let bad : false ≡ true = ruled.stands in absurd (cc)
  method_step q vs b m f (line.method face function) ruled is = let bad : false ≡ true = ruled.stands in absurd (cc)
  method_step q vs b m f (line.service name x) ruled is = let bad : false ≡ true = ruled.stands in absurd (cc)
  method_step q vs b m f (line.singleton name x) ruled is = let bad : false ≡ true = ruled.stands in absurd (cc)
  method_step q vs b m f (line.export name x) ruled is = let bad : false ≡ true = ruled.stands in absurd (cc)
  method_step q vs b m f line.thread ruled is = let bad : false ≡ true = ruled.stands in absurd (cc)
  method_step q vs b m f line.end_line ruled is =
      other_block reg sound built q (in_method b m f) (in_behaviour (record b { methods = b.methods ++ m ∷ [] })) is.open_fields is.behaviours is.threads is
  method_step q vs b m f l ruled is = method_offered reg sound built q vs b m f (statement_of reg (record { plan = q; block = in_method b m f; variables = vs }) l) is

  thread_step : (q : Plan) (vs : List Scoped) (ss : List RootStatement) (l : Line) → Ruled (record { plan = q; block = in_thread ss; variables = vs }) l
      → Offered reg q (in_thread ss) → After (record { plan = q; block = in_thread ss; variables = vs }) l
  unfolding may_stand behind
  thread_step q vs ss (line.behaviour name faces) ruled is = let bad : false ≡ true = ruled.stands in absurd (cc)
  thread_step q vs ss (line.field d) ruled is = let bad : false ≡ true = ruled.stands in absurd (cc)
  thread_step q vs ss (line.method face function) ruled is = let bad : false ≡ true = ruled.stands in absurd (cc)
  thread_step q vs ss (line.service name x) ruled is = let bad : false ≡ true = ruled.stands in absurd (cc)
  thread_step q vs ss (line.singleton name x) ruled is = let bad : false ≡ true = ruled.stands in absurd (cc)
  thread_step q vs ss (line.export name x) ruled is = let bad : false ≡ true = ruled.stands in absurd (cc)
  thread_step q vs ss line.thread ruled is = let bad : false ≡ true = ruled.stands in absurd (cc)
  thread_step q vs ss line.end_line ruled is = thread_closed reg sound built q ss is
  thread_step q vs ss l ruled is = root_offered reg sound built q vs ss (root_statement_of reg (record { plan = q; block = in_thread ss; variables = vs }) l) is

  line_step : (q : Plan) (vs : List Scoped) (bl : Block) (l : Line) → Ruled (record { plan = q; block = bl; variables = vs }) l → Offered reg q bl → After (record { plan = q; block = bl; variables = vs }) l
  line_step q vs at_top l ruled is = top_step q vs l ruled is
  line_step q vs (in_behaviour b) l ruled is = behaviour_step q vs b l ruled is
  line_step q vs (in_method b m f) l ruled is = method_step q vs b m f l ruled is
  line_step q vs (in_thread ss) l ruled is = thread_step q vs ss l ruled is

  -- ---- all lines

  asked_of : (b : Bool) (why : LineReason) (rest : Option LineReason) → (if not b then Some why else rest) ≡ None → (b ≡ true) × (rest ≡ None)
  asked_of true why rest is = (refl, is)
  asked_of false why rest is = absurd (cc)

  ruled_line : (c : Context) (l : Line) → reason_of reg c l ≡ None → Ruled c l
  unfolding reason_of has_form keeps_limits
  ruled_line c l none =
      let form = asked_of (has_form reg c l) _ _ none in
      let known = asked_of (names_are_known reg c l) _ _ form.1 in
      let new = asked_of (names_are_new c l) _ _ known.1 in
      let fits = asked_of (all_fits reg c l) _ _ new.1 in
      let limits = asked_of (keeps_limits c l) _ _ fits.1 in
      record {
        stands = (and_parts _ (may_stand c.block l) form.0).1;
        known = known.0;
        new = new.0;
        fits = fits.0;
        room = (and_parts (terms_are_flat l) (plan_has_room c l) limits.0).1;
      }

  lines_offered : (ls : List Line) (c : Context) → first_wrong reg c ls ≡ None → Offered reg c.plan c.block → Offered reg (behind_all reg ls c).plan (behind_all reg ls c).block
  unfolding behind_all
  lines_offered [] c right is = is
  lines_offered (l ∷ ls) c right is =
      let parts = right_parts reg c l ls right in
      lines_offered ls (behind reg l c) parts.1 (line_step c.plan c.variables c.block l (ruled_line c l parts.0) is)

  nothing_offered : Offered reg opening.plan opening.block
  nothing_offered =
      record {
        services = tt;
        singletons = tt;
        fields = tt;
        open_fields = tt;
        behaviours = omega arith;
        exports = omega arith;
        singles = omega arith;
        threads = omega arith;
      }

  -- so it is of a plan that keeps the rules
  pub plan_offers : (p : Plan) → KeepsTheRules reg p → Offered reg p at_top
  plan_offers p keeps =
      subst (λ q. Offered reg q at_top) keeps.made (subst (Offered reg (behind_all reg keeps.lines opening).plan) keeps.closed (lines_offered keeps.lines opening keeps.right nothing_offered))
