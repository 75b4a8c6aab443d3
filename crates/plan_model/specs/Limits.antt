-- How many lines of a kind a plan may have, and how deep a term may be nested.
use Rattle.std.specs.Prelude.{ℕ, suc, max, Bool, true, ◌&&◌, nat_lt, nat_le, List, length, Option, None, Some}
use Rattle.std.specs.List.{list_all}
use Rattle.plan_model.specs.Contexts.{Context, Block, in_method, in_thread, behaviours_before}
use Rattle.plan_model.specs.Lines.{Term, Terms, void_any, typed, elements, members, operation, none, more}
use Rattle.plan_model.specs.Lines.{Line, behaviour, service, singleton, export, thread, end_line, let_variable, set_variable, set_field, call, when, return, raise}

-- ---- terms

-- how deep a term is nested as it stands: elements, members and what an any holds are one deeper; a word is one deep, and so is an operation
unfoldable mutual
  pub term_depth : Term → ℕ
  term_depth void_any = 2
  term_depth (typed k t) = suc (term_depth t)
  term_depth (elements ts) = suc (terms_depth ts)
  term_depth (members ts) = suc (terms_depth ts)
  term_depth t = 1

  pub terms_depth : Terms → ℕ
  terms_depth none = 0
  terms_depth (more t ts) = max (term_depth t) (terms_depth ts)

-- how many parentheses of operations stand open round one another
unfoldable mutual
  pub parentheses : Term → ℕ
  parentheses (typed k t) = parentheses t
  parentheses (elements ts) = parentheses_in ts
  parentheses (members ts) = parentheses_in ts
  parentheses (operation op s t) = suc (max (parentheses s) (parentheses t))
  parentheses t = 0

  pub parentheses_in : Terms → ℕ
  parentheses_in none = 0
  parentheses_in (more t ts) = max (parentheses t) (parentheses_in ts)

unfoldable pub is_flat : Term → Bool
is_flat t = nat_le (term_depth t) 64 && nat_le (parentheses t) 64

abbrev pub is_back_flat : Option Term → Bool
is_back_flat None = true
is_back_flat (Some t) = is_flat t

unfoldable pub terms_are_flat : Line → Bool
terms_are_flat (let_variable d t) = is_flat t
terms_are_flat (set_variable name t) = is_flat t
terms_are_flat (set_field name t) = is_flat t
terms_are_flat (call to target function args) = list_all is_flat args
terms_are_flat (when left test right back) = is_flat right && is_back_flat back
terms_are_flat (return back) = is_back_flat back
terms_are_flat (raise k t) = is_flat t
terms_are_flat l = true

-- ---- counts

-- there is room for one more
unfoldable pub has_room : {X : Type 0} → List X → ℕ → Bool
has_room xs most = nat_lt (length xs) most

-- a block has room for one statement more; its end is none
unfoldable pub block_has_room : Block → Line → Bool
block_has_room b end_line = true
block_has_room (in_method b m f) l = has_room m.body 256
block_has_room (in_thread ss) l = has_room ss 16384
block_has_room b l = true

unfoldable pub plan_has_room : Context → Line → Bool
plan_has_room c (behaviour name faces) = has_room (behaviours_before c) 256
plan_has_room c (service name b) = has_room c.plan.services 256
plan_has_room c (singleton name b) = has_room c.plan.singletons 256
plan_has_room c (export name b) = has_room c.plan.exports 256
plan_has_room c thread = has_room c.plan.threads 32
plan_has_room c l = block_has_room c.block l

unfoldable pub keeps_limits : Context → Line → Bool
keeps_limits c l = terms_are_flat l && plan_has_room c l
