use Rattle.std.proofs.Common.{◌∙◌, ap, List, ℕ}
use Rattle.lanes.specs.inner.Walks.{Course}
use Rattle.machine.specs.Lines.{newline}
use Rattle.line_filters.proofs.lemmas.NearLaws.{near_found}
use Rattle.line_filters.proofs.near_lines.near_end.Goals as goal

abbrev course : List ℕ → Course
course x = record { bytes = x; byte = newline; from = 0 }

pub returns : goal.returns
returns c =
    near_found c.new-2.result c.args.bytes.now newline 128 c.next.result c.next.new.self c.requires
    (c.new-2.ensures ∙ ap (λ (x : List ℕ). course x) c.new.ensures)
    c.next.ensures
