use Rattle.std.proofs.Common.{Bool, cond, Some, ap, ◌∙◌}
use Rattle.std.proofs.lemmas.Map.Text.{btree_map_updates_str}
use Rattle.graphs.specs.NamesByPlace.{number_of}
use Rattle.graphs.proofs.names.give_place.Goals as goal

pub returns-in_ok-insert-clause-others : goal.returns-in_ok-insert-clause-others
returns-in_ok-insert-clause-others c q e =
    let place = c.args.place in
    let old = number_of c.args.places.now in
    btree_map_updates_str c.args.name.now c.args.places.now c.insert.new.self
    (Some place) c.in_ok-insert.ensures.updates q
    ∙ ap (λ (b : Bool). cond b (Some place) (old q)) e
