use Rattle.std.proofs.Common.{List, Some, None, sym, ap, ◌∙◌, subst₂}
use Rattle.network_nodes.specs.declared.actor.Actor.{Actor}
use Rattle.network_nodes.specs.declared.actor.Link.{Link}
use Rattle.networks.specs.Networks.{Networked, state_by}
use Rattle.networks.specs.Growth.{IsNext}
use Rattle.networks.proofs.network.Network.grow.Goals as goal

pub returns-in_default-clause-next : goal.returns-in_default-clause-next
returns-in_default-clause-next g c = λ s files right.
    let n = c.args.self.now in
    let nodes = ap (λ (x : Networked g.row.M.Denot). x.nodes) (sym c.self.view_is)
    ∙ sym c.deref.ensures.value in
    let pipes = ap (λ (x : Networked g.row.M.Denot). x.pipes) (sym c.self.view_is)
    ∙ sym c.deref-2.ensures.value in
    let most = ap (λ (x : Networked g.row.M.Denot). x.most) (sym c.self.view_is) in
    subst₂ (λ (xs : List (Actor g.row.M.Denot)) (ls : List Link). IsNext s
    (state_by g.M.Machine.shows xs ls files) None) (sym nodes) (sym pipes)
    (c.in_default.ensures.next s files n nodes pipes most right)

pub returns-clause-next : goal.returns-clause-next
returns-clause-next g c = λ s files right.
    let n = c.args.self.now in
    let nodes = ap (λ (x : Networked g.row.M.Denot). x.nodes) (sym c.self.view_is)
    ∙ sym c.deref.ensures.value in
    let pipes = ap (λ (x : Networked g.row.M.Denot). x.pipes) (sym c.self.view_is)
    ∙ sym c.deref-2.ensures.value in
    let most = ap (λ (x : Networked g.row.M.Denot). x.most) (sym c.self.view_is) in
    subst₂ (λ (xs : List (Actor g.row.M.Denot)) (ls : List Link). IsNext s
    (state_by g.M.Machine.shows xs ls files) (Some c.in-Some.pipe)) (sym nodes) (sym pipes)
    (c.in-Some.ensures.next s files n nodes pipes most right)
