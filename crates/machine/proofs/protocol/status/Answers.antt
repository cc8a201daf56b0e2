use Rattle.std.proofs.Common.{refl}
use Rattle.machine.proofs.lemmas.StatusLaws.{status_is}
use Rattle.machine.proofs.protocol.status.Goals as goal

pub returns : goal.returns
returns c = λ ys. status_is _ refl refl c.contains.result c.from.result c.args.inputs.now ys
    c.contains.ensures.value c.from.ensures
