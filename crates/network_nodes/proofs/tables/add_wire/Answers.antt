use Rattle.std.proofs.Common.{ap, ◌∙◌, sym, List, ℕ, ◌++◌, ◌∷◌, [], set, map}
use Rattle.std.proofs.lemmas.List.{map-set, get_or-map}
use Rattle.network_nodes.proofs.tables.add_wire.Goals as goal

pub returns : goal.returns
returns c =
    let items = map (λ v. v.items) c.args.wires.now.items in
    map-set (λ v. v.items) c.args.wires.now.items c.args.node c.push.new.self
    ∙ ap (λ (xs : List ℕ). set items c.args.node xs) (c.in_ok-push.ensures.items
    ∙ ap (λ (xs : List ℕ). xs ++ c.args.pipe ∷ []) (ap (λ v. v.items) c.index_mut.ensures.value
    ∙ sym (get_or-map (λ v. v.items) c.args.wires.now.items c.args.node c.index_mut.result.now
    [] c.requires)))
