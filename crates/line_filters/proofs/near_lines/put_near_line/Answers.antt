use Rattle.std.proofs.Common.{◌∙◌, List, ℕ, ap, take}
use Rattle.commands.specs.Selections.{is_selected}
use Rattle.lanes.specs.inner.Walks.{Course}
use Rattle.line_filters.proofs.lemmas.CutLaws.{none_put}
use Rattle.line_filters.proofs.lemmas.WalkedLaws.{none_of}
use Rattle.line_filters.proofs.near_lines.put_near_line.Goals as goal

abbrev course : ℕ → List ℕ → Course
course d x = record { bytes = x; byte = d; from = 0 }

pub returns-in-None-clause-line : goal.returns-in-None-clause-line
returns-in-None-clause-line c =
    let line = take c.in_ok-end.end c.args.bytes.now in
    let d = c.args.delimiter in (
      c.in_ok-end.ensures.0,
      c.put_near_whole-to.ensures.few,
      none_put (is_selected c.args.ranges.now.ranges.items) d c.args.only_delimited line
          (take c.args.count c.args.few.now)
          (take c.put_near_whole-to.result c.put_near_whole-to.new.few)
          (none_of c.new-walk.result line d (c.new-walk.ensures
          ∙ ap (course d) c.new.ensures) c.in-None.ensures.place)
          c.put_near_whole-to.ensures.whole,
    )
