use Rattle.std.proofs.Common.{arith}
use Rattle.network_nodes.proofs.ShareLaws.{places_more, places_all}
use Rattle.network_nodes.proofs.tables.note_places.Goals as goal

pub loop-place-preserved : goal.loop-place-preserved
loop-place-preserved c =
    places_more c.args.pipes.now c.args.places.now.items c.loop-place.places.items
    c.loop-place.place c.loop-place-test.true c.requires c.loop-place.invariant.count
    c.loop-place.invariant.places c.loop-place.invariant.others

pub returns-clause-places : goal.returns-clause-places
returns-clause-places c = places_all c.args.pipes.now c.loop-place.places.items c.loop-place.place
    (let e = c.loop-place.auto.place-end in
    omega (arith, c.loop-place-test.false, e)) c.loop-place.invariant.places
