use Rattle.std.proofs.Common.{ap, sym, map, not, option_map, ◌∙◌, rules}
use Rattle.std.proofs.lemmas.Fn.{filter_same}
use Rattle.std.specs.List.{filter}
use Rattle.std.specs.Str.{bytes_eq}
use Rattle.plan_model.specs.Contexts as plain
use Rattle.plan_checks.proofs.FindLemmas.{filter_view}
use Rattle.plan_checks.proofs.ScopeLemmas.{names_kept, names_left, others_left, taken_absent}
use Rattle.plan_checks.specs.Variables.{scoped_of}
use Rattle.plan_checks.specs.declared.scope.scoped.Scoped.{Scoped}
use Rattle.plan_checks.proofs.scope.Scope.remove.Goals as goal

-- the names are not noted
pub returns-then-not-self : goal.returns-then-not-self
returns-then-not-self c =
    ap (map scoped_of) (filter_same _ (λ (x : Scoped). not (bytes_eq c.args.name.now x.name)) _ (λ x b f k. search rules) _ _ c.retain.ensures.filtered)
    ∙ filter_view (λ (x : plain.Scoped). not (bytes_eq c.args.name.now x.name)) scoped_of c.self.inside.list.items
    ∙ ap (filter (λ (x : plain.Scoped). not (bytes_eq c.args.name.now x.name))) c.self.view_is

-- none has the name
pub invariant_of-self-in_default : goal.invariant_of-self-in_default
invariant_of-self-in_default c =
    λ yes. names_kept c.args.name.now (map scoped_of c.self.inside.list.items) c.args.self.now c.self.inside.names.keys _ c.self.view_is (c.self.invariant c.if-not-self.false)
    c.shift_remove_full.ensures.index c.shift_remove_full.new.self.keys c.shift_remove_full.ensures.keys (ap (option_map (λ p. p.0)) c.in_default.is)

pub returns-in_default : goal.returns-in_default
returns-in_default c =
    taken_absent c.args.name.now (map scoped_of c.self.inside.list.items) c.args.self.now c.self.inside.names.keys _ c.self.view_is (c.self.invariant c.if-not-self.false)
    c.shift_remove_full.ensures.index (ap (option_map (λ p. p.0)) c.in_default.is)

-- one has it
pub invariant_of-self-2 : goal.invariant_of-self-2
invariant_of-self-2 c =
    λ yes. names_left c.args.name.now c.self.inside.list.items c.remove.new.self.items c.args.self.now c.self.inside.names.keys c.shift_remove_full.new.self.keys c.in-Some.place c.self.view_is
    (c.self.invariant c.if-not-self.false) (sym c.shift_remove_full.ensures.index ∙ ap (option_map (λ p. p.0)) c.in-Some.is) c.remove.ensures.items c.shift_remove_full.ensures.keys

pub returns : goal.returns
returns c =
    others_left c.args.name.now c.self.inside.list.items c.remove.new.self.items c.args.self.now c.self.inside.names.keys c.shift_remove_full.new.self.keys c.in-Some.place c.self.view_is
    (c.self.invariant c.if-not-self.false) (sym c.shift_remove_full.ensures.index ∙ ap (option_map (λ p. p.0)) c.in-Some.is) c.remove.ensures.items c.shift_remove_full.ensures.keys
    c.shift_remove_full.ensures.updates.1
