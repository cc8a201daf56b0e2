use Rattle.std.proofs.Common.{List, sym, subst, arith}
use Rattle.std.proofs.lemmas.List.{with_items_is}
use Rattle.network_nodes.specs.declared.actor.Actor.{Actor}
use Rattle.networks.specs.Networks.{Networked, network_of}
use Rattle.networks.specs.Turns.{HasFailed}
use Rattle.lending.proofs.lemmas.ViewLaws.{runs, held_opened}
use Rattle.lending.proofs.lent.LentNetwork.run_here.Goals as goal

pub step_rounds-requires : goal.step_rounds-requires
step_rounds-requires g c =
    let m : Networked g.row.M.Denot = network_of c.self.inside.parts in
    record {
      opened = held_opened m c.args.self.now c.deref_mut.result.now c.self.view_is
          c.deref_mut.ensures.value (g.F.Files.shows c.args.files.now) c.requires.opened;
    }

pub returns : goal.returns
returns g c =
    let m : Networked g.row.M.Denot = network_of c.self.inside.parts in
    let items = with_items_is c.self.inside.parts.nodes c.step_rounds.new.nodes
    (omega (arith, c.step_rounds.auto.nodes, c.deref_mut.ensures.len)) in
    let r = runs m c.args.self.now c.deref_mut.result.now c.step_rounds.new.nodes _ c.self.view_is
    c.deref_mut.ensures.value items g.M.Machine.shows (g.F.Files.shows c.args.files.now)
    (g.F.Files.shows c.step_rounds.new.files) c.requires.opened c.step_rounds.ensures.steps in
    record {
      runs = r;
      sound = c.step_rounds.ensures.sound;
      failed = λ h. subst (λ (xs : List (Actor g.row.M.Denot)). HasFailed xs) (sym items)
          (c.step_rounds.ensures.failed h);
    }
