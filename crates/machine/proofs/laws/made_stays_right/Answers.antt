use Rattle.machine.proofs.MakesLaws.{makes_fed, makes_closed}
use Rattle.machine.proofs.laws.made_stays_right.Goals as goal

pub returns-clause-fed : goal.returns-clause-fed
returns-clause-fed c = makes_fed

pub returns-clause-closed : goal.returns-clause-closed
returns-clause-closed c = makes_closed
