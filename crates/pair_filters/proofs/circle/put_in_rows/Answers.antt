use Rattle.std.proofs.Common.{length}
use Rattle.pair_filters.proofs.lemmas.CircleRows.{place_within, place_first}
use Rattle.pair_filters.proofs.circle.put_in_rows.Goals as goal
use Rattle.pair_filters.proofs.circle.put_in_rows.Goals.{then-column-gt0, else-column-gt0}

pub returns-clause-place : goal.returns-clause-place
returns-clause-place c =
    let n = length c.args.circle.now in
    let r = c.replace_newlines-column in
    elim c.if-column-gt0.branch [
      | then-column-gt0 w ↦
          place_within n c.args.place.now c.args.bytes.now r.result c.if-column-gt0.place
          c.requires.some r.ensures.number w.if-column-gt0.true w.place-is
      | else-column-gt0 w ↦
          place_first n c.args.place.now c.args.bytes.now r.result c.if-column-gt0.place
          c.requires.some r.ensures.number w.if-column-gt0.false w.place-is
    ]
