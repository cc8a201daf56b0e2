use Rattle.std.proofs.Common.{arith}
use Rattle.std.proofs.lemmas.List.{with_items_is}
use Rattle.lending.proofs.lemmas.TurnLaws.{turned, turned_goes, turned_most}
use Rattle.lending.proofs.group.Group.turn.Goals as goal

pub returns : goal.returns
returns g c =
    let shows = g.M.Machine.shows in
    let items = with_items_is c.self.inside.stages c.step_all-moved.new.stages
    (omega (arith, c.step_all-moved.auto.stages, c.deref_mut.ensures.len)) in
    let t = turned shows c.self.inside.places.items c.self.inside.stages.items
    c.deref_mut.result.now c.step_all-moved.new.stages _ c.args.self.now c.step_all-moved.result
    c.self.view_is c.deref_mut.ensures.value items c.step_all-moved.ensures in
    record {
      goes_on = turned_goes shows c.args.self.now _ c.step_all-moved.result t;
      moved =
          turned_most shows c.args.self.now _ c.step_all-moved.result t;
      turned = t;
    }
