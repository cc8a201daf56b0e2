use Rattle.std.proofs.Common.{ℕ, ◌+◌, List, [], get_or, Some, ◌∙◌, arith}
use Rattle.std.proofs.lemmas.Map.Text.{btree_map_updates_str}
use denote.Ref.{Bor}
use Rattle.graphs.specs.NamesByPlace.{number_of}
use Rattle.graphs.proofs.lemmas.TallyLaws.{times_below, tally_next}
use Rattle.graphs.proofs.uses.tally.Goals as goal

pub overflow_add-count : goal.overflow_add-count
overflow_add-count c =
    let names = c.args.names.now in
    let d : Bor (List ℕ) = record { ref_ptr = (0, 0); now = [] } in
    let x = (get_or names c.loop-name.name-index d).now in
    let b = times_below names c.loop-name.name-index d c.loop-name-test.true x in
    let e = c.count_of-count.ensures ∙ c.loop-name.invariant x in
    omega arith

pub loop-name-preserved : goal.loop-name-preserved
loop-name-preserved c =
    let names = c.args.names.now in
    let i = c.loop-name.name-index in
    let d : Bor (List ℕ) = record { ref_ptr = (0, 0); now = [] } in
    let old = number_of c.loop-name.counts in
    let new = number_of c.insert.new.self in
    let count = c.count_of-count.result in
    tally_next names i d c.loop-name-test.true old new count c.loop-name.invariant
    c.count_of-count.ensures
    (btree_map_updates_str (get_or names i d).now c.loop-name.counts c.insert.new.self
    (Some (count + 1)) c.in_ok-insert.ensures.updates)
