use Rattle.file_stores.proofs.lemmas.PlacedLaws.{found_in}
use Rattle.file_stores.proofs.placed.begin_in.Goals as goal

pub returns-then-eq-clause-found : goal.returns-then-eq-clause-found
returns-then-eq-clause-found g c =
    found_in c.args.needed (g.F.AnyPlace.placed c.args.file.now)
    (g.F.AnyPlace.placed c.place.new.self) c.in_ok-first.first c.in_ok-size.size
    c.in_ok-begin.begin
    c.in_ok-first.ensures.same c.in_ok-first.ensures.value c.in_ok-size.ensures
    c.in_ok-begin.ensures
