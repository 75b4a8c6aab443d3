-- Two endpoints at which nothing has happened, joined.
use Rattle.std.proofs.Common.{◌≡◌, ◌≢◌, ℕ, List, [], get_or, sym, ap, ◌∙◌, codes, arith}
use Rattle.bridge_endpoint.specs.Journals.{Endpoint, opening_endpoint, setting_at}
use Rattle.bridge_setting.specs.Settings.{setting_of}
use Rattle.bridge_setting.specs.declared.setting.Setting.{Setting as Configured}
use Rattle.bridge_world.specs.Joined.{Joined, settings_of, share_of}
use Rattle.world_laws.specs.Ready.{AreReady}
use Rattle.world_model.specs.Worlds.{of_a, of_b, setting_with}
use Rattle.uno_run.specs.Joining.{IsFresh}

abbrev begun : Configured → Configured → Joined
begun x y = record { a = x; b = y; events = [] }

pub nothing_at : (e : Endpoint) → e ≡ opening_endpoint e.configured → (e.entries ≡ []) × (e.stamps ≡ [])
nothing_at e is = (ap (λ (x : Endpoint). x.entries) is, ap (λ (x : Endpoint). x.stamps) is)

pub apart_tags : (one other : List ℕ) → one ≡ codes "A" → other ≡ codes "B" → one ≢ other
apart_tags one other a b same =
    let tags : codes "A" ≡ codes "B" = sym a ∙ (same ∙ b) in
    let first = ap (λ (t : List ℕ). get_or t 0 0) tags in
    omega (arith, first)

module _ (a b : Endpoint) (one : (setting_at b).registry ≡ (setting_at a).registry) (w : Joined) (is : w ≡ begun a.configured b.configured) where
  pub setting_a : of_a (settings_of w) ≡ setting_at a
  setting_a = ap (λ (j : Joined). of_a (settings_of j)) is

  pub setting_b : of_b (settings_of w) ≡ setting_at b
  setting_b = ap (λ (j : Joined). of_b (settings_of j)) is ∙ ap (λ reg. setting_with reg (share_of b.configured)) (sym one)

  pub is_fresh : AreReady (settings_of w) → IsFresh w
  is_fresh ready =
      record {
        events = ap (λ (j : Joined). j.events) is;
        registry = ap (λ (j : Joined). (setting_of j.b).registry) is ∙ (one ∙ sym (ap (λ (j : Joined). (setting_of j.a).registry) is));
        ready = ready;
      }
