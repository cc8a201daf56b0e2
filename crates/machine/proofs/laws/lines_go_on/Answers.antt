use Rattle.machine.proofs.LinesLaws.{lines-append, lines-open, content-whole}
use Rattle.machine.proofs.laws.lines_go_on.Goals as goal

pub returns-clause-whole : goal.returns-clause-whole
returns-clause-whole c = lines-append

pub returns-clause-begun : goal.returns-clause-begun
returns-clause-begun c = lines-open

pub returns-clause-content : goal.returns-clause-content
returns-clause-content c = λ front none. content-whole front
