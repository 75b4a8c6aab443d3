-- Two ends of which each knows its journal are one history, and what they are seen as leads to where both are.
use Rattle.std.proofs.Common.{◌≡◌, refl, sym, ap, ◌∙◌, subst, ℕ, ◌||◌, Bool, true, false, List, Option, unwrap_or}
use Rattle.bridge_core.specs.declared.side.Side.TheVariants as code
use Rattle.bridge_endpoint.specs.Journals.{Endpoint, setting_at, side_at, told_at}
use Rattle.bridge_model.specs.Histories.{Told}
use Rattle.bridge_model.specs.Sides.{Side}
use Rattle.bridge_model.specs.declared.cause.Cause.{Cause}
use Rattle.world_laws.proofs.GoingOn.{way_a, way_b}
use Rattle.world_laws.proofs.Histories.{one_history}
use Rattle.world_laws.specs.Linking.{AreTwoEnds, IsOneHistory}
use Rattle.world_model.specs.Pairs.{has_full, is_full}
use Rattle.report_model.specs.Pairs.{AlwaysKeep}
use Rattle.world_model.specs.Worlds.{World, Runs, of_a, of_b, opening_world}
use Rattle.bridge_world.specs.Joined.{joined, on_the_way, settings_of, world_of}
use Rattle.bridge_world.specs.Worlds.{IsWorld}
use Rattle.bridge_world.proofs.Seeing.{side_of_told}

-- an end's setting is what both have for it
pub of_first : (a b : Endpoint) → of_a (settings_of (joined a b)) ≡ setting_at a
of_first a b = refl

pub of_second : (a b : Endpoint) (to_a to_b : List ℕ) → IsWorld a b to_a to_b → of_b (settings_of (joined a b)) ≡ setting_at b
of_second a b to_a to_b is = sym (ap (λ reg. record { tag = (setting_at b).tag; registry = reg; plan = (setting_at b).plan }) is.registry)

module _ (a b : Endpoint) (to_a to_b : List ℕ) (ends : AreTwoEnds (settings_of (joined a b)) (joined a b).events (told_at a) (told_at b) to_a to_b) where
  history : IsOneHistory (settings_of (joined a b)) (joined a b).events (told_at a) (told_at b) to_a to_b
  history = one_history (settings_of (joined a b)) (joined a b).events (told_at a) (told_at b) to_a to_b ends

  world_is : world_of (joined a b) ≡ history.world
  unfolding world_of
  world_is = ap (λ o. unwrap_or o (opening_world (settings_of (joined a b)))) history.runs

  pub now_a : (world_of (joined a b)).a.now ≡ told_at a
  now_a = ap (λ (w : World). w.a.now) world_is ∙ history.a

  pub now_b : (world_of (joined a b)).b.now ≡ told_at b
  now_b = ap (λ (w : World). w.b.now) world_is ∙ history.b

  -- the events are a history of the definition, and each of its moments keeps what two joined ends keep
  pub runs_to : Runs (settings_of (joined a b)) (joined a b).events (world_of (joined a b))
  runs_to = subst (λ (w : World). Runs (settings_of (joined a b)) (joined a b).events w) (sym world_is) history.runs

  pub keeps_always : AlwaysKeep (settings_of (joined a b)) (joined a b).events
  keeps_always = history.keeps

  -- whether an end reached a limit is seen at each
  pub full_now : has_full (world_of (joined a b)) ≡ (is_full (side_at a).cause || is_full (side_at b).cause)
  full_now =
      ap (λ (t : Told). is_full t.side.cause || is_full (world_of (joined a b)).b.now.side.cause) now_a
      ∙ (ap (λ (t : Told). is_full (told_at a).side.cause || is_full t.side.cause) now_b
      ∙ (ap (λ (s : Side). is_full s.cause || is_full (told_at b).side.cause) (sym (side_of_told a)) ∙ ap (λ (s : Side). is_full (side_at a).cause || is_full s.cause) (sym (side_of_told b))))

  -- by the causes that are told
  pub full_first : (x : Option Cause) → x ≡ (side_at a).cause → is_full x ≡ true → true ≡ has_full (world_of (joined a b))
  full_first x is full = sym (full_now ∙ ap (λ (t : Bool). t || is_full (side_at b).cause) (ap is_full (sym is) ∙ full))

  pub full_second : (x y : Option Cause) → x ≡ (side_at a).cause → y ≡ (side_at b).cause → is_full x ≡ false → is_full y ≡ has_full (world_of (joined a b))
  full_second x y is other room = ap is_full other ∙ sym (full_now ∙ ap (λ (t : Bool). t || is_full (side_at b).cause) (ap is_full (sym is) ∙ room))

-- the pipes have what is on its way
pub way_to_a : (a b : Endpoint) (to_a to_b : List ℕ) → IsWorld a b to_a to_b → on_the_way (joined a b) code.A ≡ to_a
way_to_a a b to_a to_b is = way_a (settings_of (joined a b)) (joined a b).events to_a to_b is.piped

pub way_to_b : (a b : Endpoint) (to_a to_b : List ℕ) → IsWorld a b to_a to_b → on_the_way (joined a b) code.B ≡ to_b
way_to_b a b to_a to_b is = way_b (settings_of (joined a b)) (joined a b).events to_a to_b is.piped
