use Rattle.splice_tee.proofs.lemmas.CatLaws.{cat_closes}
use Rattle.splice_tee.proofs.cat.CatMachine.close.Goals as goal

pub returns-clause-ok : goal.returns-clause-ok
returns-clause-ok c =
    rw c.next.ensures (cat_closes c.args.self.now c.args._input c.args._out.now c.requires)
