use Rattle.std.proofs.Common.{◌≡◌, ℕ, List, Option, None, Ok, map, ap, ◌∙◌, sym, subst}
use Rattle.std.specs.Prelude.{IfSome}
use Rattle.network_nodes.specs.declared.actor.Link.{Link}
use Rattle.networks.specs.Networks.{IsRight, Networked, network_state, joins}
use Rattle.networks.specs.Growth.{IsNext, PipeGrows}
use Rattle.networks.proofs.EndLaws.{named_stall}
use Rattle.networks.proofs.network.Network.grow_or_stall.Goals as goal

pub returns-in-Ok-None-clause-stalled : goal.returns-in-Ok-None-clause-stalled
returns-in-Ok-None-clause-stalled g c = λ s files right.
    let n = c.args.self.now in
    let st = network_state g.M.Machine.shows n files in
    let of = right.graph in
    let is : c.grow.result ≡ Ok None = c.in-Ok-None.is
    ∙ ap (λ (o : Option ℕ). Ok o) c.in-Ok-None.field-0-is in
    let same : c.grow.new.self ≡ n = c.grow.ensures.none is in
    let pipes : map joins c.deref.result.now ≡ s.graph.pipes =
    ap (λ (ls : List Link). map joins ls) c.deref.ensures.value
    ∙ (ap (λ (x : Networked g.row.M.Denot). map joins x.pipes) (c.self.view_is ∙ same)
    ∙ of.pipes) in
    named_stall s st c.args.answers.now c.stalled.result
    (subst (IsNext s st) c.in-Ok-None.field-0-is (c.in-Ok-None.ensures.next s files right))
    (c.stalled.ensures s.graph pipes)

pub returns-in-Ok-Some-clause-right : goal.returns-in-Ok-Some-clause-right
returns-in-Ok-Some-clause-right g c = λ s files right.
    subst (λ (n : Networked g.row.M.Denot). IsRight g.M.Machine.shows s n files)
    (sym c.count_growth.ensures) (c.grow.ensures.right s files right)

pub returns-in-Ok-Some-clause-grew : goal.returns-in-Ok-Some-clause-grew
returns-in-Ok-Some-clause-grew g c = λ none.
    let shows = g.M.Machine.shows in
    let old = c.args.self.now in
    let pipe = c.in-Ok-Some.pipe in
    record {
      pipe = pipe;
      grows = subst (λ (n : Networked g.row.M.Denot). PipeGrows pipe old n)
          (sym c.count_growth.ensures)
          (subst (λ (next : Option ℕ). IfSome next (λ p. PipeGrows p old c.grow.new.self))
          c.in-Ok-Some.field-0-is c.in-Ok-Some.ensures.grows);
      next = λ s files right.
          subst (IsNext s (network_state shows old files)) c.in-Ok-Some.field-0-is
          (c.in-Ok-Some.ensures.next s files right);
    }
