use Rattle.std.proofs.Common.{◌++◌, map, ap, sym, ◌∙◌}
use Rattle.std.proofs.lemmas.List.{map-id}
use Rattle.std.proofs.lemmas.Iterator.Consumers.{YieldsList-from_enumerate, YieldsList-at}
use Rattle.std.proofs.lemmas.Iterator.Consumers.{YieldsList-end}
use Rattle.std.proofs.lemmas.Iterator.Adapters.{YieldsList-from_vec}
use Rattle.planner.specs.Ends.{end_at}
use Rattle.planner.proofs.ends.add_ends.Goals as goal

pub returns : goal.returns
returns c =
    let from = YieldsList-from_vec c.args.places.items c.into_iter.ensures.rest
    (c.into_iter.ensures.len ∙ c.args.places.ok.0) in
    let numbered = YieldsList-from_enumerate
    (YieldsList-at c.enumerate-number-items.ensures.source from)
    c.enumerate-number-items.ensures.count in
    let whole =
    (YieldsList-end (YieldsList-at c.into_iter-number-iterator.ensures.into_iter_gives numbered)
    c.loop-number.yielded c.loop-number.number-iterator c.loop-number.yielded_by c.next.result
    c.next.new.self c.in-None.is c.next.ensures.steps).0 in
    c.loop-number.invariant ∙ ap (λ ps. c.args.ends.now.items ++ map (end_at c.args.stage) ps)
    (sym (map-id c.loop-number.yielded) ∙ whole)
