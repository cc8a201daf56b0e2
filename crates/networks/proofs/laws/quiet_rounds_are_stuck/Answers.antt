use Rattle.networks.proofs.lemmas.RoundLaws.{round_stuck}
use Rattle.networks.proofs.laws.quiet_rounds_are_stuck.Goals as goal

pub returns : goal.returns
returns c = λ s old new f m answers h count none same sound lawful room bytes some. round_stuck s
    old new f m answers h count none same sound lawful room bytes some
