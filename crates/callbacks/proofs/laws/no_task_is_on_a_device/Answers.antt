use Rattle.callbacks.proofs.ThreadLaws.{none_on_device}
use Rattle.callbacks.proofs.laws.no_task_is_on_a_device.Goals as goal

pub returns : goal.returns
returns c = none_on_device
