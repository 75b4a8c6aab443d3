-- What is asked of a setting: a sound registry whose items have small numbers, a tag that is UTF-8, and a plan of which all can be carried by bytes.
use Rattle.std.specs.Str.{IsUtf8}
use Rattle.uno_model.specs.Sound.{IsSound}
use Rattle.bridge_model.specs.Settings.{Setting}
use Rattle.bridge_laws.specs.Texts.{AreSmallItems, IsWritablePlan}

pub record IsGiven (g : Setting) : Type 0 where
  pub sound : IsSound g.registry
  pub items : AreSmallItems g.registry
  pub tag : IsUtf8 g.tag
  pub plan : IsWritablePlan g.plan
