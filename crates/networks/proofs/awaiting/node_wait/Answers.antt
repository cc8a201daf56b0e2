use Rattle.std.proofs.Common.{◌≡◌, ℕ, ◌<◌, ◌↔◌, List, Option, Some, None, refl, length, sym, ap}
use Rattle.std.proofs.Common.{◌∙◌, subst, subst₂}
use Rattle.std.specs.Prelude.{is_none}
use Rattle.std.proofs.lemmas.List.{get_or_default}
use Rattle.collector.specs.Nodes.{source_part, read_by}
use Rattle.stages.specs.inner.Steps.{part}
use Rattle.graphs.specs.Graph.{node_at}
use Rattle.network_laws.specs.Waits.{StageWaitsFull}
use Rattle.network_nodes.specs.declared.actor.Actor.{Actor}
use Rattle.network_nodes.specs.declared.actor.Actor.TheVariants as an
use Rattle.network_nodes.specs.declared.actor.Link.{Link}
use Rattle.network_nodes.specs.inner.Actors.{actor_at, node_state_at}
use Rattle.networks.specs.Networks.{FitsAt, state_by}
use Rattle.networks.specs.NodeWaits.{IsSourceWait, WaitsFull}
use Rattle.networks.proofs.lemmas.WaitLaws.{source_node, stage_node, sink_node, fits_source}
use Rattle.networks.proofs.lemmas.WaitLaws.{fits_stage}
use Rattle.networks.proofs.awaiting.node_wait.Goals as goal

pub returns-in-Source-clause-full : goal.returns-in-Source-clause-full
returns-in-Source-clause-full g c = λ s files n p en ep right.
    let shows = g.M.Machine.shows in
    let nodes = c.args.nodes.now in
    let k = c.args.node in
    let x = c.in-Source.source in
    let r = c.source_wait.result in
    let here : actor_at nodes k ≡ an.Source x =
    sym (c.index-nodes-node.is
    ∙ get_or_default nodes k c.index-nodes-node.result an.Lent c.requires.within)
    ∙ c.in-Source.is in
    let mine : actor_at n.nodes k ≡ an.Source x =
    ap (λ (xs : List (Actor g.row.M.Denot)). actor_at xs k) en ∙ here in
    let within : k < length n.nodes = subst (λ (xs : List (Actor g.row.M.Denot)). k < length xs)
    (sym en) c.requires.within in
    let runs = sym (ap node_state_at c.in-Source.is)
    ∙ (sym c.state.ensures ∙ c.runs.ensures.0 c.if-not-runs.false) in
    let fits = fits_source shows s files k x (node_at s.graph k)
    (subst (λ (a : Actor g.row.M.Denot). FitsAt shows s files k (node_at s.graph k) a) mine
    (right.fits k within)) in
    subst₂ (λ (xs : List (Actor g.row.M.Denot)) (ls : List Link). (r ≡ Some p)
    ↔ WaitsFull s (state_by shows xs ls files) k p) en ep
    (source_node shows s files n right k within x mine runs r p
    (subst₂ (λ (xs : List (Actor g.row.M.Denot)) (ls : List Link). (r ≡ Some p)
    ↔ IsSourceWait (state_by shows xs ls files) (is_none x.file)
    (source_part (read_by files x.file).bytes x) x.pipe p) (sym en) (sym ep)
    (c.source_wait.ensures.full files p fits runs)))

pub returns-in-Stage-clause-full : goal.returns-in-Stage-clause-full
returns-in-Stage-clause-full g c = λ s files n p en ep right.
    let shows = g.M.Machine.shows in
    let nodes = c.args.nodes.now in
    let k = c.args.node in
    let t = c.in-Stage.stage in
    let r = c.ready_wait.result in
    let here : actor_at nodes k ≡ an.Stage t =
    sym (c.index-nodes-node.is
    ∙ get_or_default nodes k c.index-nodes-node.result an.Lent c.requires.within)
    ∙ c.in-Stage.is in
    let mine : actor_at n.nodes k ≡ an.Stage t =
    ap (λ (xs : List (Actor g.row.M.Denot)). actor_at xs k) en ∙ here in
    let within : k < length n.nodes = subst (λ (xs : List (Actor g.row.M.Denot)). k < length xs)
    (sym en) c.requires.within in
    let runs = sym (ap node_state_at c.in-Stage.is)
    ∙ (sym c.state.ensures ∙ c.runs.ensures.0 c.if-not-runs.false) in
    let case = fits_stage shows s files k t (node_at s.graph k)
    (subst (λ (a : Actor g.row.M.Denot). FitsAt shows s files k (node_at s.graph k) a) mine
    (right.fits k within)) in
    subst₂ (λ (xs : List (Actor g.row.M.Denot)) (ls : List Link). (r ≡ Some p)
    ↔ WaitsFull s (state_by shows xs ls files) k p) en ep
    (stage_node shows s files n right k within t mine runs r p
    (subst₂ (λ (xs : List (Actor g.row.M.Denot)) (ls : List Link). (r ≡ Some p)
    ↔ StageWaitsFull (state_by shows xs ls files) (part shows t) t.outlet.pipes p) (sym en)
    (sym ep)
    (c.ready_wait.ensures.full files case.0 p case.1 runs)))

pub returns-in-Sink-clause-full : goal.returns-in-Sink-clause-full
returns-in-Sink-clause-full g c = λ s files n p en ep right.
    let shows = g.M.Machine.shows in
    let nodes = c.args.nodes.now in
    let k = c.args.node in
    let here : actor_at nodes k ≡ an.Sink _ =
    sym (c.index-nodes-node.is
    ∙ get_or_default nodes k c.index-nodes-node.result an.Lent c.requires.within)
    ∙ c.in-Sink.is in
    let within : k < length n.nodes = subst (λ (xs : List (Actor g.row.M.Denot)). k < length xs)
    (sym en) c.requires.within in
    let r : Option ℕ = None in
    subst₂ (λ (xs : List (Actor g.row.M.Denot)) (ls : List Link). (r ≡ Some p)
    ↔ WaitsFull s (state_by shows xs ls files) k p) en ep
    (sink_node shows s files n right k within _
    (ap (λ (xs : List (Actor g.row.M.Denot)). actor_at xs k) en ∙ here) r p refl)
