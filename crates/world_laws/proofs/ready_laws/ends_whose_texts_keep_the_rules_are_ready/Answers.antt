use Rattle.bridge_laws.proofs.SpellableGivenLaws.{registry_small}
use Rattle.bridge_laws.proofs.Naming.{rules_tell_names}
use Rattle.registry_text_model.proofs.SoundLaws.{rules_make_sound}
use Rattle.world_laws.proofs.ready_laws.ends_whose_texts_keep_the_rules_are_ready.Goals as goal

pub returns : goal.returns
returns c g keeps built plan_a plan_b tag_a tag_b apart =
    record {
      up = record {
        sound = rules_make_sound g.registry keeps;
        built = built;
        differ = rules_tell_names g.registry keeps;
        keeps_a = plan_a;
        keeps_b = plan_b;
        tag_a = tag_a;
        tag_b = tag_b;
        apart = apart;
      };
      items = registry_small g.registry keeps;
    }
