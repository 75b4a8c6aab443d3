use Rattle.std.proofs.Common.{◌≡◌, ◌∙◌, refl, sym, ap, subst, ◌-◌, ◌<◌, suc, length, slice_get, get_or, Some, arith}
use Rattle.std.proofs.lemmas.Bool.{ltb-false}
use Rattle.std.proofs.lemmas.List.{length-map}
use Rattle.std.proofs.lemmas.Option.{slice_get_read, slice_get-map}
use Rattle.std.specs.Option.{option_map}
use Rattle.idl_names.specs.Paths.{IsInside, inside_of, paths_of}
use Rattle.idl_names.proofs.PathLookups.{inside_at}
use Rattle.idl_names.proofs.PathLaws.{how_many}
use Rattle.idl_names.proofs.paths.Paths.last.Goals as goal

pub returns-in-Some-clause-some : goal.returns-in-Some-clause-some
returns-in-Some-clause-some c =
    let found = c.in-Some.ensures.lookup in
    let items = c.self.inside.inside.items in
    let low = subst (λ xs. c.args.number - 1 < length xs) c.deref.ensures.value found.3.0 in
    let there : slice_get items (c.args.number - 1) ≡ Some c.in-Some.field-0.now =
    slice_get_read items (length items) (c.args.number - 1) c.in-Some.field-0.now refl low (subst (λ xs. c.in-Some.field-0.now ≡ get_or xs (c.args.number - 1) c.in-Some.field-0.now) c.deref.ensures.value found.1) in
    let some : c.args.number ≡ suc (c.args.number - 1) = let other = c.if-number-eq-OUTERMOST.false in omega (arith, other) in
    subst (λ ps. IsInside ps (c.in-Some.field-0.now.0, c.in-Some.field-0.now.1.now) c.args.number) c.self.view_is
    (inside_at (inside_of items) c.self.inside.numbers c.self.invariant.numbered (c.args.number - 1) c.args.number some (c.in-Some.field-0.now.0, c.in-Some.field-0.now.1.now)
    (slice_get-map _ items (c.args.number - 1) ∙ ap (option_map _) there))

pub returns-in-None-clause-none : goal.returns-in-None-clause-none
returns-in-None-clause-none c =
    let items = c.self.inside.inside.items in
    let low : c.args.number < length (paths_of (inside_of items)) = subst (λ ps. c.args.number < length ps) (sym c.self.view_is) c.requires in
    let many = how_many (inside_of items) in
    let long : length (inside_of items) ≡ length items = length-map items _ in
    let past = ltb-false (c.args.number - 1) (length c.deref.result.now) (sym c.in-None.ensures.lookup.0) in
    let same : length c.deref.result.now ≡ length items = ap length c.deref.ensures.value in
    omega (arith, low, many, long, past, same)
