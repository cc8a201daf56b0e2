use Rattle.waiting_outputs.proofs.lemmas.Settles.{told_settles}
use Rattle.waiting_outputs.proofs.output.Output.settle.Goals as goal

pub returns-in-Some : goal.returns-in-Some
returns-in-Some g c =
    told_settles c.args.self.now c.wait.new.self c.in-Some.ensures.home (c.is_out.ensures.some cc)
    c.told.result c.in-Some.answer c.in-Some.ensures.told c.told.ensures
