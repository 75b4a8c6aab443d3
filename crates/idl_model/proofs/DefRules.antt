-- Modules, definitions and files are read as they are spelled.
use Rattle.std.proofs.Common.{◌≡◌, ℕ, zero, suc, Bool, true, false, not, ◌&&◌, List, [], ◌∷◌, ◌++◌, Option, None, Some, is_some, is_none, codes}
use Rattle.std.proofs.Common.{if◌then◌else◌}
use Rattle.std.proofs.Common.{refl, sym, ap, subst, ◌∙◌, inl, inr}
use Rattle.std.specs.List.{list_all}
use Rattle.grammar_model.specs.Agreement.{Agrees, opens_none}
use Rattle.grammar_model.specs.Readings.{next, closed}
use Rattle.grammar_model.specs.Readings as read
use Rattle.grammar_model.specs.Relations.{Image, Either, Optional, Many, Bracketed, ◌&◌, ◌&>◌, ◌<&◌}
use Rattle.grammar_model.proofs.Agreeing.{StartsWith, starts_image, starts_behind, starts_optional, starts_either, IsRule, weaken_rule}
use Rattle.grammar_model.proofs.Agreeing.{image_agrees, image_rule}
use Rattle.grammar_model.proofs.Agreeing.{then_agrees, then_rule, behind_agrees, before_agrees, choice_rule, optional_ends, optional_fits, optional_rule}
use Rattle.grammar_model.proofs.Agreeing.{many_rule, optional_all_fit}
use Rattle.grammar_model.proofs.Bounded.{IsQuiet}
use Rattle.grammar_model.proofs.Leaves.{always, all_fit, closed_agrees}
use Rattle.grammar_model.proofs.Repeats.{list_ends}
use Rattle.idl_model.proofs.DeclRules.{braced_list_rule, starts_braced, decl_fits, starts_decl, decl_rule}
use Rattle.idl_model.proofs.Enclosing.{to_middle, from_middle}
use Rattle.idl_model.proofs.MemberRules.{list_over, fits_other}
use Rattle.idl_model.proofs.Terminals.{Starts, never, starts_keyword, word_of_keyword, same_mark, some_token, identifier_is, keyword_rule}
use Rattle.idl_model.proofs.Terminals.{mark_rule, id_rule}
use Rattle.idl_model.specs.Depths.{def_fits, defs_fit, tree_fits_within}
use Rattle.idl_model.specs.Grammar.{Tokens, Keyword, Mark, IsId, of_marks, Braced, IsDecl, IsDef, AreDefs, IsTree}
use Rattle.idl_model.specs.GrammarReading.{ReadsTokens, keyword, mark, is_keyword, is_mark, is_open_word, is_open, module_of, declared_of, def_by, body_at}
use Rattle.idl_model.specs.GrammarReading.{def, tree}
use Rattle.idl_model.specs.GrammarReading as reading
use Rattle.idl_model.specs.ParseVerdicts.{opens, opening_marks}
use Rattle.idl_model.specs.PlacedTokens.{PlacedToken, next_word, is_word}
use Rattle.idl_model.specs.Trees.{Id, Decl, Def, in_module, declared, Defs, no_defs, defs, listed, Tree}
use Rattle.idl_model.specs.Trees as trees
use Rattle.idl_text_model.specs.Tokens.{Word}
use Rattle.idl_text_model.specs.Tokens as token

-- ---- a list of definitions as what stands in a module

to_defs : (ds : List Def) (u : Tokens) → Many IsDef ds u → AreDefs (defs ds) u
unfolding Many AreDefs
to_defs [] u p = p
to_defs (d ∷ ds) u p = (p.0, p.1, p.2, p.3, to_defs ds p.1 p.4)

from_defs : (ds : Defs) (u : Tokens) → AreDefs ds u → Many IsDef (listed ds) u
unfolding Many AreDefs listed
from_defs no_defs u p = p
from_defs (trees.def d ds) u p = (p.0, p.1, p.2, p.3, from_defs ds p.1 p.4)

same_defs : (ds : Defs) → defs (listed ds) ≡ ds
unfolding listed
same_defs no_defs = refl
same_defs (trees.def d ds) = ap (trees.def d) (same_defs ds)

defs_fit_is : (types brackets modules : ℕ) (ds : List Def) → defs_fit types brackets modules (defs ds) ≡ list_all (def_fits types brackets modules) ds
unfolding defs_fit
defs_fit_is types brackets modules [] = refl
defs_fit_is types brackets modules (d ∷ ds) = ap (λ b. def_fits types brackets modules d && b) (defs_fit_is types brackets modules ds)

-- ---- a module, or a declaration

abbrev IsBody : List Def → Tokens → Type 0
IsBody = Braced (Many IsDef)

abbrev IsModule : Def → Tokens → Type 0
IsModule = Image module_of (Keyword (codes "module") &> IsId & (IsBody <& Mark (codes ";")))

abbrev AsRead : Def → Tokens → Type 0
AsRead = Either IsModule (Image declared_of (Optional (Keyword (codes "published")) & IsDecl))

abbrev Around : (Tokens → Type 0) → Id → Tokens → Type 0
Around inside = Bracketed (Keyword (codes "module") &> (IsId <& Mark (codes "{"))) inside (Mark (codes "}") & Mark (codes ";"))

around_map : (inside other : Tokens → Type 0) → ((v : Tokens) → inside v → other v) → (i : Id) (u : Tokens) → Around inside i u → Around other i u
around_map inside other to i u p = (p.0, p.1, p.2, p.3, p.4, to p.1 p.5, p.6)

to_def : (d : Def) (u : Tokens) → AsRead d u → IsDef d u
unfolding IsDef
to_def d u (inl p) =
    let z : Id × List Def = p.0 in
    let b = to_middle (Mark (codes "{")) (Many IsDef) (Mark (codes "}")) (Keyword (codes "module")) IsId (Mark (codes ";")) z.0 z.1 u p.2 in
    let here : IsDef (in_module z.0 (defs z.1)) u = around_map (λ v. Many IsDef z.1 v) (λ v. AreDefs (defs z.1) v) (to_defs z.1) z.0 u b in
    subst (λ k. IsDef k u) (sym p.1) here
to_def d u (inr p) =
    let z : Option (Unit {0}) × Decl = p.0 in
    let here : IsDef (declared (is_some z.0) z.1) u = (z, refl, p.2) in
    subst (λ k. IsDef k u) (sym p.1) here

from_def : (d : Def) (u : Tokens) → IsDef d u → AsRead d u
unfolding IsDef
from_def (in_module name ds) u p =
    inl (
      (name, listed ds),
      ap (in_module name) (sym (same_defs ds)),
      from_middle (Mark (codes "{")) (Many IsDef) (Mark (codes "}")) (Keyword (codes "module")) IsId (Mark (codes ";")) name (listed ds) u
          (around_map (λ v. AreDefs ds v) (λ v. Many IsDef (listed ds) v) (from_defs ds) name u p),
    )
from_def (declared published decl) u p = inr (p.0, ap (λ (k : Bool × Decl). declared k.0 k.1) p.1, p.2)

-- ---- what a definition begins with

module _ (d : Option Word → Bool) where
  starts_declared : d (Some (token.quoted (codes "published"))) ≡ true → Starts d IsDecl
      → Starts d (Image declared_of (Optional (Keyword (codes "published")) & IsDecl))
  starts_declared published rest = starts_image (λ o. d (next_word o)) declared_of (Optional (Keyword (codes "published")) & IsDecl)
      (starts_optional (λ o. d (next_word o)) (Keyword (codes "published")) IsDecl (starts_keyword d (codes "published") published) rest)

  starts_def : d (Some (token.quoted (codes "module"))) ≡ true → d (Some (token.quoted (codes "published"))) ≡ true → Starts d IsDecl → Starts d IsDef
  starts_def in_a_module published rest x used left p = as_read x used left (from_def x used p)
    where
      as_read : Starts d AsRead
      as_read = starts_either (λ o. d (next_word o)) IsModule (Image declared_of (Optional (Keyword (codes "published")) & IsDecl))
          (starts_image (λ o. d (next_word o)) module_of (Keyword (codes "module") &> IsId & (IsBody <& Mark (codes ";")))
          (starts_behind (λ o. d (next_word o)) (Keyword (codes "module")) (IsId & (IsBody <& Mark (codes ";")))
          (starts_keyword d (codes "module") in_a_module)))
          (starts_declared published rest)

def_open : StartsWith (is_open (codes "}")) IsDef
def_open = starts_def (is_open_word (codes "}")) refl refl (starts_decl (is_open_word (codes "}")) refl refl refl refl refl refl refl refl)

-- ---- how deep

abbrev body_fits : (types brackets modules : ℕ) → List Def → Bool
body_fits types brackets zero ds = false
body_fits types brackets (suc modules) ds = list_all (def_fits types brackets modules) ds

quiet_module : IsQuiet opens (Keyword (codes "module"))
quiet_module x used p =
    let shut : opens p.0 ≡ false = ap (λ k. is_some (of_marks opening_marks k)) (word_of_keyword (codes "module") p.0 x p.2) in
    ap (λ k. opens_none opens k) p.1 ∙ ap (λ b. not b && true) shut

quiet_id : IsQuiet opens IsId
quiet_id x used p =
    let w = identifier_is (p.0).place (p.0).word x p.2 in
    let shut : opens p.0 ≡ false = ap (λ k. is_some (of_marks opening_marks k)) w.1 in
    ap (λ k. opens_none opens k) p.1 ∙ ap (λ b. not b && true) shut

module _ (types brackets : ℕ) where
  declared_rule : (modules : ℕ) → IsRule opens always (def_fits types brackets modules)
      (read.image declared_of (read.◌&◌ (read.optional (is_keyword (codes "published")) (keyword (codes "published"))) (reading.decl types brackets)))
      (Image declared_of (Optional (Keyword (codes "published")) & IsDecl))
  unfolding def_fits
  declared_rule modules = image_rule declared_of always (def_fits types brackets modules)
      (then_rule (optional_rule (is_keyword (codes "published")) (keyword_rule (codes "published"))
      (starts_keyword (is_word (token.quoted (codes "published"))) (codes "published") refl)) (decl_rule types brackets) link)
      (λ z o. refl) (λ z. fits_other (optional_fits {X = Unit {0}} all_fit z.0) (decl_fits types brackets z.1) (optional_all_fit z.0))
    where
      link : (o : Option (Unit {0})) (y : Decl) (q rest : Tokens) → IsDecl y q → always {T = PlacedToken} y (next rest) ≡ true
          → optional_ends (is_keyword (codes "published")) always o (next (q ++ rest)) ≡ true
      link None y q rest p over = starts_decl (λ o. not (is_word (token.quoted (codes "published")) o)) refl refl refl refl refl refl refl refl y q rest p
      link (Some x) y q rest p over = refl

  def_step : (modules : ℕ) → Agrees opens always (body_fits types brackets modules) (body_at types brackets modules) IsBody
      → IsRule opens always (def_fits types brackets modules) (def_by types brackets (body_at types brackets modules)) IsDef
  unfolding def_fits
  def_step modules body = weaken_rule
      (choice_rule (is_keyword (codes "module"))
      (image_agrees module_of always (def_fits types brackets modules)
      (behind_agrees (keyword_rule (codes "module")).agrees
      (then_agrees id_rule.agrees (before_agrees body (mark_rule (codes ";")).agrees (mark_rule (codes ";")).room (λ x y q rest p. refl)) (inr quiet_id)
      (λ x y q rest p over. refl))
      (inr quiet_module))
      (λ z o. refl) (λ z. module_fits modules z.0 z.1))
      (declared_rule modules)
      (starts_image (is_keyword (codes "module")) module_of (Keyword (codes "module") &> IsId & (IsBody <& Mark (codes ";")))
      (starts_behind (is_keyword (codes "module")) (Keyword (codes "module")) (IsId & (IsBody <& Mark (codes ";")))
      (starts_keyword (is_word (token.quoted (codes "module"))) (codes "module") refl)))
      (λ x used rest p over. never (is_word (token.quoted (codes "module"))) (Image declared_of (Optional (Keyword (codes "published")) & IsDecl))
      (starts_declared (λ o. not (is_word (token.quoted (codes "module")) o)) refl
      (starts_decl (λ o. not (is_word (token.quoted (codes "module")) o)) refl refl refl refl refl refl refl refl)) x used rest p))
      to_def from_def
    where
      module_fits : (modules : ℕ) (i : Id) (ds : List Def) → def_fits types brackets modules (in_module i (defs ds)) ≡
          (true && body_fits types brackets modules ds)
      module_fits zero i ds = refl
      module_fits (suc modules) i ds = defs_fit_is types brackets modules ds

  body_agrees : (modules : ℕ) → Agrees opens always (body_fits types brackets modules) (body_at types brackets modules) IsBody
  unfolding body_at Many
  body_agrees zero = closed_agrees opens (is_mark (codes "{")) IsBody refl (starts_braced (is_word (token.mark (codes "{"))) (Many IsDef) refl)
      (λ t is. (ap (λ k. is_some (of_marks opening_marks k)) (same_mark (codes "{") t.word is), empty_body t is))
      (let e = empty_body (some_token (token.mark (codes "{"))) refl in (e.0, some_token (token.mark (codes "{")) ∷ e.1, e.2))
    where
      -- braces with nothing between them
      empty_body : (t : PlacedToken) → is_mark (codes "{") (Some t) ≡ true → (x : List Def) × (tail : Tokens) × IsBody x (t ∷ tail)
      empty_body t is = (
        [],
        some_token (token.mark (codes "}")) ∷ [],
        (
          (tt, []),
          refl,
          (
            t ∷ [],
            some_token (token.mark (codes "}")) ∷ [],
            refl,
            (t, refl, ap (λ b. if b then Some tt else None) is),
            (([], tt), refl, ([], some_token (token.mark (codes "}")) ∷ [], refl, refl, (some_token (token.mark (codes "}")), refl, refl))),
          ),
        ),
      )
  body_agrees (suc modules) = (braced_list_rule (def_step modules (body_agrees modules)) def_open).agrees

  pub def_rule : (modules : ℕ) → IsRule opens always (def_fits types brackets modules) (def types brackets modules) IsDef
  unfolding def
  def_rule modules = def_step modules (body_agrees modules)

-- ---- a file

-- it goes on as long as a token is left
abbrev pub tree_ends : Tree → Option PlacedToken → Bool
tree_ends tree o = list_ends {T = PlacedToken} is_some always tree o

pub to_the_end : (x : Tree) (o : Option PlacedToken) → tree_ends x o ≡ is_none o
to_the_end x None = sym (list_over {X = Def} is_some x None)
to_the_end x (Some t) = sym (list_over {X = Def} is_some x (Some t))

pub tree_agrees : (types brackets modules : ℕ) → Agrees opens tree_ends (tree_fits_within types brackets modules) (tree types brackets modules) IsTree
unfolding tree
tree_agrees types brackets modules = (many_rule is_some (def_rule types brackets modules) refl first (λ x o is. refl)).agrees
  where
    some_word : (o : Option PlacedToken) → is_some (next_word o) ≡ true → is_some o ≡ true
    some_word None is = is
    some_word (Some t) is = refl

    first : StartsWith {T = PlacedToken} is_some IsDef
    first x used rest p = some_word (next (used ++ rest)) (starts_def is_some refl refl (starts_decl is_some refl refl refl refl refl refl refl refl) x used
        rest p)
