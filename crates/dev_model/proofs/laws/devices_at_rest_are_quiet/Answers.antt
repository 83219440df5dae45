use Rattle.dev_model.specs.PlaceLaws.{rest_is_quiet}
use Rattle.dev_model.proofs.laws.devices_at_rest_are_quiet.Goals as goal

pub returns : goal.returns
returns g disks rest = rest_is_quiet disks rest
