-- What a method lets go when it ends, one step after the other.
use Rattle.std.proofs.Common.{◌≡◌, ℕ, ◌+◌, ◌<◌, ◌≤◌, List, [], ◌∷◌, ◌++◌, length, drop, get_or, refl, sym, ap, ◌∙◌}
use Rattle.std.proofs.lemmas.List.{at_drop_more, drop_all}
use Rattle.message_model.specs.Messages.{raised}
use Rattle.uno_model.specs.Kinds.{Kind}
use Rattle.uno_model.specs.Values.{Ref, own, Plain, refs}
use Rattle.uno_values.specs.Values.{plain_of}
use Rattle.table_model.specs.declared.holder.Holder.{Holder}
use Rattle.table_model.specs.declared.holder.Holder.TheVariants as holder
use Rattle.plan_model.specs.Frames.{Body}
use Rattle.plan_model.specs.Holdings.{let_go_at_end, refs_under}
use Rattle.plan_types.specs.Frames.{variables_of}
use Rattle.plan_types.specs.declared.frame.Variable.{Variable}
use Rattle.bridge_model.specs.Handing.{lets_go_frame}
use Rattle.bridge_model.specs.References.{lets_go, lets_go_all, refs_of_answer}
use Rattle.bridge_model.specs.Settings.{Setting, own_oid}
use Rattle.bridge_model.specs.Sides.{Tables}
use Rattle.bridge_tables.specs.EndTables.{EndTables, on_tables, with_tables}

going_on : (g : Setting) (h : Holder) (rs qs : List Ref) (t : Tables) → lets_go_all g h (rs ++ qs) t ≡ lets_go_all g h qs (lets_go_all g h rs t)
unfolding lets_go_all
going_on g h [] qs t = refl
going_on g h (r ∷ rs) qs t = going_on g h rs qs (lets_go g h r t)

-- ---- variables

refs_next : (xs : List Variable) (i : ℕ) (x : Variable) → i < length xs → x ≡ get_or xs i x
    → refs_under (variables_of (drop i xs)) ≡ refs (plain_of x.value) ++ refs_under (variables_of (drop (i + 1) xs))
unfolding refs_under
refs_next xs i x within is =
    at_drop_more (λ ys. refs_under (variables_of ys)) xs i x within ∙ ap (λ y. refs (plain_of y.value) ++ refs_under (variables_of (drop (i + 1) xs))) (sym is)

module _ (g : Setting) (h : Holder) (xs : List Variable) (i : ℕ) where
  -- the rest is let go behind this one
  pub variable_going : (x : Variable) (e before after : EndTables) → i < length xs → x ≡ get_or xs i x → after ≡ on_tables (lets_go_all g h (refs (plain_of x.value))) before
      → on_tables (lets_go_all g h (refs_under (variables_of (drop i xs)))) before ≡ e → on_tables (lets_go_all g h (refs_under (variables_of (drop (i + 1) xs)))) after ≡ e
  variable_going x e before after within is here all =
      ap (on_tables (lets_go_all g h (refs_under (variables_of (drop (i + 1) xs))))) here
      ∙ ap (λ t. with_tables t before) (sym (going_on g h (refs (plain_of x.value)) (refs_under (variables_of (drop (i + 1) xs))) before.tables))
      ∙ ap (λ rs. on_tables (lets_go_all g h rs) before) (sym (refs_next xs i x within is))
      ∙ all

  -- and nothing is left
  pub variables_gone : (e now : EndTables) → length xs ≤ i → on_tables (lets_go_all g h (refs_under (variables_of (drop i xs)))) now ≡ e → now ≡ e
  unfolding refs_under lets_go_all
  variables_gone e now past all = sym (ap (λ ys. on_tables (lets_go_all g h (refs_under (variables_of ys))) now) (drop_all i xs past)) ∙ all

-- ---- frames

frame_split : (g : Setting) (b : Body) (extra : List Ref) (t : Tables)
    → lets_go g (holder.Frame b.number) (own (own_oid g b.object) b.face) (lets_go_all g (holder.Frame b.number) (refs_under b.variables) (lets_go_all g (holder.Frame b.number) extra t)) ≡ lets_go_frame g b extra t
unfolding lets_go_all let_go_at_end
frame_split g b extra t =
    sym
    (going_on g (holder.Frame b.number) extra (refs_under b.variables ++ own (own_oid g b.object) b.face ∷ []) t
    ∙ going_on g (holder.Frame b.number) (refs_under b.variables) (own (own_oid g b.object) b.face ∷ []) (lets_go_all g (holder.Frame b.number) extra t))

-- first these, then the variables, the own object last
pub frame_gone : (g : Setting) (b : Body) (extra : List Ref) (r : Ref) (e first second after : EndTables) → r ≡ own (own_oid g b.object) b.face
    → first ≡ on_tables (lets_go_all g (holder.Frame b.number) extra) e → second ≡ on_tables (lets_go_all g (holder.Frame b.number) (refs_under b.variables)) first
    → after ≡ on_tables (lets_go g (holder.Frame b.number) r) second → after ≡ on_tables (lets_go_frame g b extra) e
frame_gone g b extra r e first second after is these variables here =
    here
    ∙ ap (on_tables (lets_go g (holder.Frame b.number) r)) (variables ∙ ap (on_tables (lets_go_all g (holder.Frame b.number) (refs_under b.variables))) these)
    ∙ ap (λ q. on_tables (λ t. lets_go g (holder.Frame b.number) q (lets_go_all g (holder.Frame b.number) (refs_under b.variables) (lets_go_all g (holder.Frame b.number) extra t))) e) is
    ∙ ap (λ t. with_tables t e) (frame_split g b extra e.tables)

-- the references of an exception
pub refs_raised : (k : Kind) (x : Plain) (rs : List Ref) → rs ≡ refs x → refs_of_answer (raised k x) ≡ rs
unfolding refs_of_answer
refs_raised k x rs is = sym is
