use Rattle.stages.proofs.lemmas.StartLaws.{case_new}
use Rattle.stages.proofs.stage.Stage.new.Goals as goal

pub returns-clause-case : goal.returns-clause-case
returns-clause-case g c = λ whole presence fresh new_in new_out. case_new whole presence
    (g.M.Machine.shows c.args.machine) c.args.inlet c.args.outlet
    (g.met.M.Machine.lawful c.args.machine) c.requires fresh new_in new_out
