-- Frames that begin leave what can be carried by bytes.
use Rattle.std.proofs.Common.{ℕ, Bool, true, false, if◌then◌else◌, List, [], ◌∷◌, drop, slice_get, unwrap_or}
use Rattle.std.specs.Str.{IsUtf8}
use Rattle.message_model.specs.Calls.{numbered, goes}
use Rattle.message_model.specs.Messages.{request}
use Rattle.uno_model.specs.Defaults.{default_of_kind}
use Rattle.uno_model.specs.Entities.{Param}
use Rattle.uno_model.specs.Spellable.{IsSpellable}
use Rattle.uno_model.specs.Values.{own, Plain}
use Rattle.uno_model.specs.Values as v
use Rattle.table_model.specs.declared.holder.Holder.TheVariants as holder
use Rattle.plan_model.specs.Frames.{Frame}
use Rattle.plan_model.specs.Holdings.{behind_argument, first_variables}
use Rattle.bridge_model.specs.Calls.{params_of, first_body, calls_own, serves, calls_peer, query_args, queries_peer}
use Rattle.bridge_model.specs.References.{gains_all, takes_all, refs_of_values}
use Rattle.bridge_model.specs.Settings.{Setting, own_oid}
use Rattle.bridge_model.specs.Sides.{Tables}
use Rattle.bridge_laws.proofs.EvaluationSpelling.{VariablesSpellable, value_by, void_spellable}
use Rattle.bridge_laws.proofs.SpellableGiven.{IsGiven}
use Rattle.bridge_laws.proofs.HandingSpelling.{FramesSpellable, UnwoundSpellable}
use Rattle.bridge_laws.proofs.TableSpelling.{TablesSpellable, says_spellable, gains_spellable, gains_all_spellable, takes_all_spellable}
use Rattle.bridge_laws.proofs.ValueSpelling.{AllSpellable, values_refs, own_utf8, default_spellable}

pub query_args_spellable : (wanted : List ℕ) → AllSpellable (query_args wanted)
unfolding IsSpellable
query_args_spellable wanted = (tt, tt)

module _ (g : Setting) (given : IsGiven g) where
  first_argument : (args : List Plain) → AllSpellable args → IsSpellable (unwrap_or (slice_get args 0) v.void)
  first_argument [] all = void_spellable
  first_argument (x ∷ args) all = all.0

  behind_by : (b : Bool) (args : List Plain) → AllSpellable args → AllSpellable (if b then drop 1 args else args)
  behind_by true [] all = tt
  behind_by true (x ∷ args) all = all.1
  behind_by false args all = all

  first_spellable : (ps : List Param) (args : List Plain) → AllSpellable args → VariablesSpellable (first_variables g.registry ps args)
  unfolding first_variables
  first_spellable [] args all = tt
  first_spellable (p ∷ ps) args all = (
    value_by (goes p.way) (unwrap_or (slice_get args 0) v.void) (default_of_kind g.registry p.kind) (first_argument args all) (default_spellable g.registry given.items p.kind),
    first_spellable ps (behind_argument p args) (behind_by (goes p.way) args all),
  )

  -- ---- calls of own objects

  pub calls_own_spellable : (oid face : List ℕ) (function : ℕ) (args : List Plain) (fs : List Frame) (t : Tables) → AllSpellable args → FramesSpellable fs → TablesSpellable t
      → UnwoundSpellable (calls_own g oid face function args fs t)
  unfolding calls_own
  calls_own_spellable oid face function args fs t all frames fine =
      let b = first_body g false oid face function args t in
      let held = gains_all_spellable (holder.Frame b.number) (refs_of_values args) t (values_refs args all) fine in
      let itself = gains_spellable (holder.Frame b.number) (own (own_oid g b.object) b.face) (gains_all (holder.Frame b.number) (refs_of_values args) t) (own_utf8 g given.tag b.object) held in
      record {
        frames = (first_spellable (params_of (numbered g.registry face function)) args all, frames);
        tables = record { fields = itself.fields; held = itself.held; states = itself.states; said = itself.said };
      }

  pub serves_spellable : (oid face : List ℕ) (function : ℕ) (args : List Plain) (fs : List Frame) (t : Tables) → AllSpellable args → FramesSpellable fs → TablesSpellable t
      → UnwoundSpellable (serves g oid face function args fs t)
  unfolding serves
  serves_spellable oid face function args fs t all frames fine =
      let b = first_body g true oid face function args t in
      let held = takes_all_spellable g (holder.Frame b.number) (refs_of_values args) t (values_refs args all) fine in
      let itself = gains_spellable (holder.Frame b.number) (own (own_oid g b.object) b.face) (takes_all g (holder.Frame b.number) (refs_of_values args) t) (own_utf8 g given.tag b.object) held in
      record {
        frames = (first_spellable (params_of (numbered g.registry face function)) args all, frames);
        tables = record { fields = itself.fields; held = itself.held; states = itself.states; said = itself.said };
      }

  -- ---- calls of the peer's

  pub calls_peer_spellable : (tid oid face : List ℕ) (function : ℕ) (args : List Plain) (fs : List Frame) (t : Tables) → IsUtf8 oid → AllSpellable args → FramesSpellable fs → TablesSpellable t
      → UnwoundSpellable (calls_peer g tid oid face function args fs t)
  unfolding calls_peer
  calls_peer_spellable tid oid face function args fs t text all frames fine =
      let says_it = says_spellable g (request tid oid face function args) t (text, all) fine in
      record { frames = (tt, frames); tables = record { fields = says_it.fields; held = says_it.held; states = says_it.states; said = says_it.said } }

  pub queries_peer_spellable : (tid oid face wanted : List ℕ) (fs : List Frame) (t : Tables) → IsUtf8 oid → FramesSpellable fs → TablesSpellable t
      → UnwoundSpellable (queries_peer g tid oid face wanted fs t)
  queries_peer_spellable tid oid face wanted fs t text frames fine = calls_peer_spellable tid oid face 0 (query_args wanted) fs t text (query_args_spellable wanted) frames fine
