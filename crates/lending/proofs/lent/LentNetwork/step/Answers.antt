use Rattle.std.proofs.Common.{◌≡◌, List, ap, ◌∙◌, sym, subst, subst₂, arith}
use Rattle.std.proofs.lemmas.List.{with_items_is}
use Rattle.network_laws.specs.State.{node_state_of}
use Rattle.network_nodes.specs.declared.actor.Actor.{Actor}
use Rattle.network_nodes.specs.inner.Actors.{actor_at}
use Rattle.networks.specs.Networks.{Networked, network_of, part_of}
use Rattle.networks.specs.Turns.{HasFailed}
use Rattle.lending.specs.inner.Loans.{StepsHere}
use Rattle.lending.proofs.lemmas.ViewLaws.{runs, held_opened, held_here}
use Rattle.lending.proofs.lent.LentNetwork.step.Goals as goal

pub step_here-requires : goal.step_here-requires
step_here-requires g c =
    let m : Networked g.row.M.Denot = network_of c.self.inside.parts in
    record {
      here = held_here m c.args.self.now c.deref_mut.result.now c.self.view_is
          c.deref_mut.ensures.value c.args.node c.requires.here;
      opened = held_opened m c.args.self.now c.deref_mut.result.now c.self.view_is
          c.deref_mut.ensures.value (g.F.Files.shows c.args.files.now) c.requires.opened;
    }

pub returns : goal.returns
returns g c =
    let m : Networked g.row.M.Denot = network_of c.self.inside.parts in
    let items = with_items_is c.self.inside.parts.nodes c.step_here.new.nodes
    (omega (arith, c.step_here.auto.nodes, c.deref_mut.ensures.len)) in
    let r = runs m c.args.self.now c.deref_mut.result.now c.step_here.new.nodes _ c.self.view_is
    c.deref_mut.ensures.value items g.M.Machine.shows (g.F.Files.shows c.args.files.now)
    (g.F.Files.shows c.step_here.new.files) c.requires.opened c.step_here.ensures.steps in
    let same : c.args.self.now.nodes ≡ c.deref_mut.result.now =
    ap (λ (x : Networked g.row.M.Denot). x.nodes) (sym c.self.view_is)
    ∙ sym c.deref_mut.ensures.value in
    record {
      runs = r;
      acts =
          subst₂
          (λ (xs ys : List (Actor g.row.M.Denot)). StepsHere g.M.Machine.shows c.args.node xs ys
          (g.F.Files.shows c.args.files.now)
          (g.F.Files.shows c.step_here.new.files) c.step_here.result) (sym same)
          (sym items) c.step_here.ensures.acts;
      halted = λ h. c.step_here.ensures.halted
          (λ e. h
          (ap (λ (xs : List (Actor g.row.M.Denot)). node_state_of
          (part_of g.M.Machine.shows (g.F.Files.shows c.args.files.now) (actor_at xs c.args.node)))
          same ∙ e));
      sound = c.step_here.ensures.sound;
      failed = λ h. subst (λ (xs : List (Actor g.row.M.Denot)). HasFailed xs) (sym items)
          (c.step_here.ensures.failed h);
    }
