use Rattle.std.proofs.Common.{ℕ, Option, Some, sym, subst}
use Rattle.collector.specs.InputEnds.{IsHeldFirst}
use Rattle.file_stores.specs.inner.Limits.{limited}
use Rattle.file_stores.proofs.lemmas.Limits.{second_limit}
use Rattle.file_stores.proofs.first_lines.fewer.Goals as goal

pub returns-in-Some : goal.returns-in-Some
returns-in-Some c left =
    subst
    (λ (l : Option ℕ). IsHeldFirst c.args.lines (limited l left) (limited (Some c.min.result) left))
    (sym c.in-Some.is)
    (second_limit c.args.lines c.in-Some.limit c.min.result left c.min.ensures)
