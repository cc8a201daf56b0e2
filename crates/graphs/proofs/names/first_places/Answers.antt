use Rattle.std.proofs.Common.{ℕ, List, []}
use denote.Ref.{Bor}
use Rattle.graphs.specs.NamesByPlace.{number_of}
use Rattle.graphs.proofs.lemmas.PlaceLaws.{places_next}
use Rattle.graphs.proofs.names.first_places.Goals as goal

pub loop-i-preserved : goal.loop-i-preserved
loop-i-preserved c =
    let d : Bor (List ℕ) = record { ref_ptr = (0, 0); now = [] } in
    let old = number_of c.loop-i.places in
    let new = number_of c.give_place.new.places in
    let given = c.in_ok-give_place.ensures in
    places_next c.args.names.now c.loop-i.i d c.loop-i-test.true old new c.loop-i.invariant
    given.own given.others
