use Rattle.networks.proofs.lemmas.RoundLaws.{progress_all}
use Rattle.networks.proofs.laws.rounds_go_on.Goals as goal

pub returns : goal.returns
returns c = λ s old new f m answers h. progress_all s 0 old new f m answers h
