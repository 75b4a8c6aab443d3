-- What is read between the braces of a module, by how many modules may still open.
use Rattle.std.proofs.Common.{◌≡◌, ℕ, zero, suc, ◌<◌, ◌-◌, codes, refl, ap, arith}
use Rattle.grammar_model.specs.Readings.{closed, many, ◌&>◌, ◌<&◌}
use Rattle.idl_model.specs.Grammar.{Tokens}
use Rattle.idl_model.specs.GrammarReading.{body_at, braced_list, def, def_by, is_mark, is_open, mark}

pub no_body : (types brackets modules : ℕ) (toks : Tokens) → modules ≡ 0 → body_at types brackets modules toks ≡ closed (is_mark (codes "{")) toks
unfolding body_at
no_body types brackets modules toks none = rw none refl

pub body_on : (types brackets modules : ℕ) (toks : Tokens) → 0 < modules
    → body_at types brackets modules toks ≡ (mark (codes "{") &> many (is_open (codes "}")) (def types brackets (modules - 1)) <& mark (codes "}")) toks
unfolding body_at def
body_on types brackets zero toks some = let bad : ⊥ = omega arith in absurd bad
body_on types brackets (suc modules) toks some =
    let fuel : modules ≡ suc modules - 1 = omega arith in
    ap (λ n. braced_list (def_by types brackets (body_at types brackets n)) toks) fuel

pub ruleset bodies = (no_body, body_on)
