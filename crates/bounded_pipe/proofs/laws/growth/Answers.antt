use Rattle.std.proofs.Common.{List, ◌++◌, ap, sym, ◌∙◌}
use Rattle.machine.specs.declared.piece.Item.{Item}
use Rattle.bounded_pipe.proofs.Records.{cancel}
use Rattle.bounded_pipe.proofs.laws.growth.Goals as goal

pub returns-clause-same : goal.returns-clause-same
returns-clause-same c = λ capacity w w' r r' grown b b'.
    cancel r.taken r'.known r.known (ap (λ (l : List Item). l ++ r'.known) (sym grown.taken)
    ∙ (sym (let t = b'.sees in t.between) ∙ (grown.put ∙ (let s = b.sees in s.between))))
