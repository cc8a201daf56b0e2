use Rattle.networks.proofs.lemmas.CalmLaws.{schedule_stuck}
use Rattle.networks.proofs.laws.quiet_schedules_are_stuck.Goals as goal

pub returns : goal.returns
returns c = λ s nodes old new f m answers h all each few sound lawful room bytes some.
    schedule_stuck s nodes old new f m answers h all each few sound lawful room bytes some
