use Rattle.endpoint_text.proofs.SettingUp.{read_names}
use Rattle.endpoint_text.proofs.endpoints.know_names.Goals as goal

pub returns : goal.returns
returns c = λ text accepted. read_names c.args.registry.now text accepted
