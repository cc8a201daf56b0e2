use Rattle.std.proofs.Common.{◌≡◌, ◌≢◌, subst}
use Rattle.std.proofs.lemmas.List.{get_or_default}
use Rattle.network_nodes.specs.declared.actor.Actor.{Actor}
use Rattle.network_nodes.specs.declared.actor.Actor.TheVariants as an
use Rattle.network_laws.specs.State.{node_state_of}
use Rattle.run_types.specs.declared.node_state.NodeState.TheVariants as state
use Rattle.networks.specs.Networks.{IsHere, HasFile, part_of}
use Rattle.networks.specs.inner.Steps.{Acts}
use Rattle.lending.proofs.FillLaws.{here_within}
use Rattle.lending.proofs.StepLaws.{steps_one}
use Rattle.lending.proofs.lemmas.FaultLaws.{acts_sound, step_failed, step_here}
use Rattle.lending.proofs.apart.step_here.Goals as goal

pub bounds-nodes-node : goal.bounds-nodes-node
bounds-nodes-node g c = here_within c.args.nodes.now c.args.node c.requires.here

pub act-requires : goal.act-requires
act-requires g c =
    let same = get_or_default c.args.nodes.now c.args.node an.Lent c.index-nodes-node.result
    (here_within c.args.nodes.now c.args.node c.requires.here) in
    record {
      here = subst (λ (a : Actor g.row.M.Denot). IsHere a) same c.requires.here;
      opened = subst (λ (a : Actor g.row.M.Denot). HasFile (g.F.Files.shows c.args.files.now) a)
          same (c.requires.opened c.args.node);
    }

pub returns-clause-steps : goal.returns-clause-steps
returns-clause-steps g c =
    let f = g.F.Files.shows c.args.files.now in
    let f' = g.F.Files.shows c.act.new.files in
    let lt = here_within c.args.nodes.now c.args.node c.requires.here in
    steps_one g.M.Machine.shows f f' c.act.result c.args.nodes.now c.args.node c.act.new.actor
    c.requires.here
    (subst (λ (a : Actor g.row.M.Denot). Acts g.M.Machine.shows a c.act.new.actor f f' c.act.result)
    (get_or_default c.args.nodes.now c.args.node c.index-nodes-node.result an.Lent lt)
    c.act.ensures.acts)

pub returns-clause-acts : goal.returns-clause-acts
returns-clause-acts g c =
    let f = g.F.Files.shows c.args.files.now in
    let f' = g.F.Files.shows c.act.new.files in
    let lt = here_within c.args.nodes.now c.args.node c.requires.here in
    step_here g.M.Machine.shows f f' c.act.result c.args.nodes.now c.args.node c.act.new.actor lt
    (subst (λ (a : Actor g.row.M.Denot). Acts g.M.Machine.shows a c.act.new.actor f f' c.act.result)
    (get_or_default c.args.nodes.now c.args.node c.index-nodes-node.result an.Lent lt)
    c.act.ensures.acts)

pub returns-clause-sound : goal.returns-clause-sound
returns-clause-sound g c = λ ne. acts_sound g.M.Machine.shows (g.F.Files.shows c.args.files.now)
    (g.F.Files.shows c.act.new.files) c.act.result _ c.act.new.actor c.act.ensures.acts ne

pub returns-clause-failed : goal.returns-clause-failed
returns-clause-failed g c =
    let f = g.F.Files.shows c.args.files.now in
    let f' = g.F.Files.shows c.act.new.files in
    let lt = here_within c.args.nodes.now c.args.node c.requires.here in
    step_failed g.M.Machine.shows f f' c.act.result c.args.nodes.now c.args.node c.act.new.actor lt
    (subst (λ (a : Actor g.row.M.Denot). Acts g.M.Machine.shows a c.act.new.actor f f' c.act.result)
    (get_or_default c.args.nodes.now c.args.node c.index-nodes-node.result an.Lent lt)
    c.act.ensures.acts)

pub returns-clause-halted : goal.returns-clause-halted
returns-clause-halted g c =
    let f = g.F.Files.shows c.args.files.now in
    subst (λ (a : Actor g.row.M.Denot). node_state_of
    (part_of g.M.Machine.shows f a) ≢ state.Running → c.act.new.files ≡ c.args.files.now)
    (get_or_default c.args.nodes.now c.args.node c.index-nodes-node.result an.Lent
    (here_within c.args.nodes.now c.args.node c.requires.here)) c.act.ensures.halted
