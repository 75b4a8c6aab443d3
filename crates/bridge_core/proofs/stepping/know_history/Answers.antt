use Rattle.bridge_core.proofs.stepping.know_history.Goals as goal

pub returns : goal.returns
returns c = record { leads = c.journal.ensures.leads; gives = c.journal.ensures.gives; set_up = c.journal.ensures.set_up; built_in = c.journal.ensures.built_in; tag = c.journal.ensures.tag.short }
