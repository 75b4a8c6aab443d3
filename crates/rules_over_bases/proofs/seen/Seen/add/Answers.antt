use Rattle.std.proofs.Common.{ℕ, List, [], ◌∷◌, IfOk, refl, sym, subst}
use Rattle.rules_over_bases.specs.Seen.{Sees}
use Rattle.rules_over_bases.proofs.SeenLemmas.{is_getter, is_setter, is_plain, sees_plain, repeats_plain}
use Rattle.rules_over_bases.proofs.seen.Seen.add.Goals as goal

pub returns-in-Some : goal.returns-in-Some
returns-in-Some c =
    let found = c.in-Some.ensures.cases in
    subst (λ (n : List ℕ). IfOk c.add_getter.result (λ is_new. Sees c.args.self.now c.add_getter.new.self (n ∷ []) is_new))
    (sym (is_getter c.args.name.now c.in-Some.attribute.now found.0 found.1.1 found.2)) c.add_getter.ensures

pub returns-in-Some-strip_prefix : goal.returns-in-Some-strip_prefix
returns-in-Some-strip_prefix c =
    let found = c.in-Some-strip_prefix.ensures.cases in
    subst (λ (n : List ℕ). IfOk c.add_setter.result (λ is_new. Sees c.args.self.now c.add_setter.new.self (n ∷ []) is_new))
    (sym (is_setter c.args.name.now c.in-Some-strip_prefix.attribute.now found.0 found.1.1 found.2)) c.add_setter.ensures

pub returns-then-not-branch : goal.returns-then-not-branch
returns-then-not-branch c =
    repeats_plain c.args.self.now _ c.args.name _ (is_plain c.args.name.now c.in_default.ensures.cases c.in_default-strip_prefix.ensures.cases)
    c.in_ok-insert.ensures.added c.in_ok-insert.ensures.unchanged refl refl refl c.if-not-branch.true

pub returns : goal.returns
returns c =
    sees_plain c.args.self.now _ c.args.name _ (is_plain c.args.name.now c.in_default.ensures.cases c.in_default-strip_prefix.ensures.cases)
    c.in_ok-insert.ensures.added c.in_ok-insert.ensures.updates refl refl c.in_ok-push.ensures.items c.if-not-branch.false
