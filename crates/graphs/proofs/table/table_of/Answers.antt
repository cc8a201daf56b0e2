use Rattle.std.proofs.Common.{◌<◌, ◌++◌, ◌∷◌, [], ap, ◌∙◌, arith, get_or, length}
use Rattle.std.proofs.lemmas.List.{length-set}
use Rattle.graphs.proofs.lemmas.MarkLaws.{row as row_at}
use Rattle.graphs.proofs.lemmas.Tables.{rows_more}
use Rattle.graphs.proofs.table.table_of.Goals as goal

pub loop-from-preserved : goal.loop-from-preserved
loop-from-preserved c =
    let ends = c.args.ends.now in
    let i = c.loop-from.from-index in
    let rows = c.loop-from.rows.items in
    let inv = c.loop-from.invariant in
    let from = (get_or ends i (0, 0)).0 in
    let to = (get_or ends i (0, 0)).1 in
    let r = c.requires i (0, 0) c.loop-from-test.true in
    let in' : from < length rows = omega (arith, r, inv.count) in
    record {
      count = length-set rows (get_or ends i (0, 0)).0 c.push.new.self ∙ inv.count;
      rows = rows_more ends i rows c.push.new.self c.loop-from-test.true in' inv.rows
          (c.in_ok-push.ensures.items
          ∙ ap (λ xs. xs ++ to ∷ [])
          (row_at rows from c.index_mut.result.now in' c.index_mut.ensures.value));
    }
