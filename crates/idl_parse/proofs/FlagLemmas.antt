-- Flags, and a property with flags, from what is read one after the other.
use Rattle.std.proofs.Common.{◌≡◌, ℕ, List, Result, Ok, codes, sym, ap, subst, ◌∙◌}
use Rattle.grammar_model.specs.Loops.{with_front}
use Rattle.grammar_model.specs.Readings.{◌>>=◌, many, image, ◌&◌, ◌&>◌, ◌<&◌}
use Rattle.grammar_model.specs.declared.fault.Fault.{Fault}
use Rattle.idl_model.specs.Grammar.{Tokens, property_flags, property_of}
use Rattle.idl_model.specs.GrammarReading.{ReadsTokens, flag, flags, is_mark, is_one_of, keyword, mark, property_tail}
use Rattle.idl_model.specs.Trees.{Flag, Id, WrittenType}
use Rattle.idl_parse.specs.Flags.{property_behind}
use Rattle.idl_parse.specs.Reading.{Fails}
use Rattle.idl_parse.specs.declared.stop.Stop.{Stop}
use Rattle.idl_parse.proofs.FrontLemmas.{goes_wrong, joined_is, joined_behind, joined_last, behind_list, followed_is, followed_behind, with_rest}

module _ (table : List (List ℕ × Flag)) (word : List ℕ) where
  abbrev before : ReadsTokens (List Flag)
  before = many (is_one_of table) (flag table <& mark (codes ","))

  abbrev behind : ReadsTokens (List Flag)
  behind = many (is_mark (codes ",")) (mark (codes ",") &> flag table)

  pub flags_first : (front : List Flag) (toks : Tokens) (stop : Stop)
      → Fails stop (with_front front (many (is_one_of table) (flag table <& mark (codes ",")) toks))
      → Fails stop (with_front front (flags table word toks))
  unfolding flags
  flags_first front toks stop wrong =
      goes_wrong stop (with_front front (before toks)) (behind_list before (keyword word) behind) (with_front front (flags table word toks))
      (joined_is before (keyword word) behind front toks) wrong

  pub flags_second : (front now : List Flag) (said : List ℕ) (toks left : Tokens) (stop : Stop)
      → with_front front (many (is_one_of table) (flag table <& mark (codes ",")) toks) ≡ Ok (now, left) → said ≡ word → Fails stop (keyword said left)
      → Fails stop (with_front front (flags table word toks))
  unfolding flags
  flags_second front now said toks left stop is same wrong =
      goes_wrong stop (keyword word left) (λ w. with_front now (behind w.1)) (with_front front (flags table word toks))
      (joined_behind before (keyword word) behind front now toks left is) (subst (λ (k : List ℕ). Fails stop (keyword k left)) same wrong)

  pub flags_third : (front now : List Flag) (said : List ℕ) (toks left rest : Tokens)
      → with_front front (many (is_one_of table) (flag table <& mark (codes ",")) toks) ≡ Ok (now, left) → said ≡ word → keyword said left ≡ Ok (tt, rest)
      → with_front now (many (is_mark (codes ",")) (mark (codes ",") &> flag table) rest) ≡ with_front front (flags table word toks)
  unfolding flags
  flags_third front now said toks left rest is same next =
      sym (joined_last before (keyword word) behind front now toks left rest tt is (subst (λ (k : List ℕ). keyword k left ≡ Ok (tt, rest)) same next))

abbrev property_flagged : ReadsTokens (List Flag)
property_flagged = flags property_flags (codes "property")

pub property_first : (front : List Flag) (toks : Tokens) (stop : Stop) → Fails stop (with_front front (flags property_flags (codes "property") toks))
    → Fails stop (image (property_behind front) (flags property_flags (codes "property") & property_tail 64) toks)
property_first front toks stop wrong =
    goes_wrong stop (with_front front (property_flagged toks)) (with_rest property_of property_flagged (property_tail 64))
    (image (property_behind front) (property_flagged & property_tail 64) toks) (followed_is property_of property_flagged (property_tail 64) front toks) wrong

pub property_second : (front now : List Flag) (toks left : Tokens) (stop : Stop)
    → with_front front (flags property_flags (codes "property") toks) ≡ Ok (now, left)
    → Fails stop (property_tail 64 left) → Fails stop (image (property_behind front) (flags property_flags (codes "property") & property_tail 64) toks)
property_second front now toks left stop is wrong =
    goes_wrong stop (property_tail 64 left) (λ y. Ok (property_of (now, y.0), y.1)) (image (property_behind front) (property_flagged & property_tail 64) toks)
    (followed_behind property_of property_flagged (property_tail 64) front now toks left is) wrong

pub property_read : (front now : List Flag) (toks left last : Tokens) (y : WrittenType × Id)
    → with_front front (flags property_flags (codes "property") toks) ≡ Ok (now, left) → property_tail 64 left ≡ Ok (y, last)
    → image (property_behind front) (flags property_flags (codes "property") & property_tail 64) toks ≡ Ok (property_of (now, y), last)
property_read front now toks left last y is next =
    followed_behind property_of property_flagged (property_tail 64) front now toks left is
    ∙ ap (λ (k : Result ((WrittenType × Id) × Tokens) Fault). k >>= λ z. Ok (property_of (now, z.0), z.1)) next
