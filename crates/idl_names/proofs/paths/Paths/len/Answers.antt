use Rattle.std.proofs.Common.{◌≡◌, ap, length, slice_get, Some, subst, sym, arith}
use Rattle.std.proofs.lemmas.List.{length-map}
use Rattle.idl_names.specs.Paths.{inside_of, paths_of}
use Rattle.idl_names.proofs.PathLaws.{how_many, one_path}
use Rattle.idl_names.proofs.PathLookups.{told}
use Rattle.idl_names.proofs.paths.Paths.len.Goals as goal

pub returns-clause-count : goal.returns-clause-count
returns-clause-count c =
    let items = c.self.inside.inside.items in
    let many = how_many (inside_of items) in
    let long : length (inside_of items) ≡ length items = length-map items _ in
    let same : length c.as_slice.result.now ≡ length items = ap length c.as_slice.ensures.value in
    let seen : length (paths_of (inside_of items)) ≡ length c.args.self.now = ap length c.self.view_is in
    omega (arith, many, long, same, seen)

pub returns-clause-once : goal.returns-clause-once
returns-clause-once c = λ n k p here there.
    let items = c.self.inside.inside.items in
    one_path (inside_of items) (told (inside_of items) c.self.inside.numbers c.self.invariant.numbered) n k p (subst (λ ps. slice_get ps n ≡ Some p) (sym c.self.view_is) here)
    (subst (λ ps. slice_get ps k ≡ Some p) (sym c.self.view_is) there)
