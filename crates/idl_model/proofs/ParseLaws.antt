-- Tokens have one tree and one verdict, and the reading finds it.
use Rattle.std.proofs.Common.{◌≡◌, ℕ, max, Result, Ok, Err}
use Rattle.std.proofs.Common.{refl, sym, ap, ◌∙◌, arith}
use Rattle.grammar_model.specs.Agreement.{Agrees}
use Rattle.grammar_model.specs.Verdicts.{IsVerdict}
use Rattle.grammar_model.specs.declared.fault.Fault.{Fault}
use Rattle.grammar_model.specs.declared.fault.Why.{Why}
use Rattle.grammar_model.specs.declared.fault.Why.TheVariants.{Unexpected, Nested}
use Rattle.grammar_model.proofs.Exact.{one_tree, verdict_is, verdict_only}
use Rattle.idl_model.proofs.DefRules.{tree_ends, to_the_end, tree_agrees}
use Rattle.idl_model.proofs.DepthLaws.{tree_holds}
use Rattle.idl_model.specs.Depths.{tree_fits}
use Rattle.idl_model.specs.Grammar.{Tokens, IsTree}
use Rattle.idl_model.specs.GrammarReading.{tree, read_tree}
use Rattle.idl_model.specs.ParseVerdicts.{ParseFault, unexpected, nested, opens, IsParsed, fault_of, with_place, parsed}
use Rattle.idl_model.specs.Trees.{Tree}

pub tokens_one_tree : (toks : Tokens) (x y : Tree) → IsTree x toks → IsTree y toks → x ≡ y
tokens_one_tree toks x y p q =
    let a = tree_holds x in
    let b = tree_holds y in
    let n : ℕ = max a.0 b.0 in
    one_tree (tree_agrees n n n) to_the_end toks x y p q (a.1 n n n (omega arith) (omega arith) (omega arith))
    (b.1 n n n (omega arith) (omega arith) (omega arith))

-- with the limits of the language
limited : Agrees opens tree_ends tree_fits (tree 64 64 64) IsTree
unfolding tree_fits
limited = tree_agrees 64 64 64

refused_is : (toks : Tokens) (why : Why) (left : ℕ) → IsVerdict opens tree_fits IsTree toks (Err (record { why = why; left = left }))
    → IsParsed toks (Err (fault_of toks why left))
refused_is toks Unexpected left v = (left, v, refl)
refused_is toks Nested left v = (left, v, refl)

pub parsed_is : (toks : Tokens) → IsParsed toks (parsed toks)
parsed_is toks = of_read (read_tree toks) (verdict_is limited to_the_end toks)
  where
    of_read : (read : Result Tree Fault) → IsVerdict opens tree_fits IsTree toks read → IsParsed toks (with_place toks read)
    of_read (Ok x) v = v
    of_read (Err f) v = refused_is toks f.why f.left v

pub parsed_only : (toks : Tokens) (out : Result Tree ParseFault) → IsParsed toks out → parsed toks ≡ out
parsed_only toks (Ok x) v = ap (with_place toks) (verdict_only limited to_the_end toks (Ok x) v)
parsed_only toks (Err (unexpected place)) v =
    ap (with_place toks) (verdict_only limited to_the_end toks (Err (record { why = Unexpected; left = v.0 })) v.1) ∙ ap (λ k. Err (unexpected k)) (sym v.2)
parsed_only toks (Err (nested place)) v =
    ap (with_place toks) (verdict_only limited to_the_end toks (Err (record { why = Nested; left = v.0 })) v.1) ∙ ap (λ k. Err (nested k)) (sym v.2)
