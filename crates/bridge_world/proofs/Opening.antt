-- Two endpoints at which nothing has happened, with one registry and tags that differ, are joined; and what two endpoints know of themselves is what two ends are.
use Rattle.std.proofs.Common.{◌≡◌, sym, ap, ◌∙◌, subst, ℕ, ◌≢◌, List, []}
use Rattle.bridge_endpoint.specs.Journals.{Endpoint, IsSetUp, setting_at, told_at}
use Rattle.bridge_model.specs.Entries.{Entry}
use Rattle.bridge_model.specs.Histories.{Leads}
use Rattle.bridge_laws.specs.Texts.{AreSmallItems}
use Rattle.bridge_laws.specs.Giving.{RootsGive}
use Rattle.world_laws.specs.Linking.{ArePiped, AreTwoEnds}
use Rattle.world_laws.specs.Merging.{AreMerged, events_at, put_in}
use Rattle.world_laws.proofs.GoingOn.{opening_piped}
use Rattle.world_laws.proofs.MergeLaws.{none_merged}
use Rattle.plan_model.specs.Keeps.{KeepsTheRules}
use Rattle.uno_entities.specs.Tag as code
use Rattle.uno_model.specs.BuiltIn.{HasBuiltIn}
use Rattle.world_laws.specs.Ready.{AreReady}
use Rattle.world_model.specs.Setups.{IsTag}
use Rattle.world_model.specs.Worlds.{of_b, entries_of}
use Rattle.world_model.specs.declared.side.Side.TheVariants.{A, B}
use Rattle.bridge_world.specs.Joined.{joined, settings_of}
use Rattle.bridge_world.specs.Worlds.{IsWorld}

same_tag : (tag : List ℕ) → code.IsTag tag → IsTag tag
same_tag tag is = record { short = is.short; letters = is.letters }

-- what two endpoints know of what they are set up with
pub both_ready : (a b : Endpoint) → (setting_at b).registry ≡ (setting_at a).registry → IsSetUp (setting_at a) → IsSetUp (setting_at b) → HasBuiltIn (setting_at a).registry
    → code.IsTag (setting_at a).tag → code.IsTag (setting_at b).tag → (setting_at a).tag ≢ (setting_at b).tag → AreSmallItems (setting_at a).registry → AreReady (settings_of (joined a b))
both_ready a b one first second built tag_a tag_b apart small =
    record {
      up =
          record {
            sound = first.sound;
            built = built;
            differ = first.names;
            keeps_a = first.rules;
            keeps_b = subst (λ reg. KeepsTheRules reg (setting_at b).plan) one second.rules;
            tag_a = same_tag (setting_at a).tag tag_a;
            tag_b = same_tag (setting_at b).tag tag_b;
            apart = apart;
          };
      items = small;
    }

empty_merged : (ea eb : List Entry) (sa sb : List ℕ) → ea ≡ [] → eb ≡ [] → sa ≡ [] → sb ≡ [] → AreMerged (put_in sb eb (events_at A ea)) ea eb sa sb
unfolding put_in
empty_merged ea eb sa sb one two three four =
    subst (λ ns. AreMerged (put_in ns eb (events_at A ea)) ea eb sa ns) (sym four)
    (subst (λ ns. AreMerged (put_in [] eb (events_at A ea)) ea eb ns []) (sym three)
    (subst (λ es. AreMerged (put_in [] es (events_at A ea)) ea es [] []) (sym two)
    (subst (λ es. AreMerged (put_in [] [] (events_at A es)) es [] [] []) (sym one) none_merged)))

pub no_events : (a b : Endpoint) → a.entries ≡ [] → b.stamps ≡ [] → (joined a b).events ≡ []
unfolding put_in
no_events a b one four =
    ap (λ ns. put_in ns b.entries (events_at A a.entries)) four ∙ ap (events_at A) one

pub opening_is : (a b : Endpoint) → a.entries ≡ [] → a.stamps ≡ [] → b.entries ≡ [] → b.stamps ≡ [] → (setting_at b).registry ≡ (setting_at a).registry → AreReady (settings_of (joined a b))
    → IsWorld a b [] []
opening_is a b one three two four registry ready =
    record {
      registry = registry;
      merged = empty_merged a.entries b.entries a.stamps b.stamps one two three four;
      piped = subst (λ es. ArePiped (settings_of (joined a b)) es [] []) (sym (no_events a b one four)) (opening_piped (settings_of (joined a b)) ready);
    }

-- two endpoints of which each knows that its journal is a history
pub two_ends : (a b : Endpoint) (to_a to_b : List ℕ) → IsWorld a b to_a to_b → Leads (setting_at a) a.entries (told_at a) → RootsGive (setting_at a) a.entries → Leads (setting_at b) b.entries (told_at b)
    → RootsGive (setting_at b) b.entries → AreTwoEnds (settings_of (joined a b)) (joined a b).events (told_at a) (told_at b) to_a to_b
two_ends a b to_a to_b is lead_a give_a lead_b give_b =
    let of_second : setting_at b ≡ of_b (settings_of (joined a b)) = ap (λ reg. record { tag = (setting_at b).tag; registry = reg; plan = (setting_at b).plan }) is.registry in
    record {
      piped = is.piped;
      leads_a = subst (λ es. Leads (setting_at a) es (told_at a)) (sym is.merged.entries_a) lead_a;
      leads_b = subst (λ g. Leads g (entries_of B (joined a b).events) (told_at b)) of_second (subst (λ es. Leads (setting_at b) es (told_at b)) (sym is.merged.entries_b) lead_b);
      gives_a = subst (RootsGive (setting_at a)) (sym is.merged.entries_a) give_a;
      gives_b = subst (λ g. RootsGive g (entries_of B (joined a b).events)) of_second (subst (RootsGive (setting_at b)) (sym is.merged.entries_b) give_b);
    }
