use Rattle.std.proofs.Common.{◌≡◌, [], length, refl, inr, ap, sym, ◌∙◌, arith}
use Rattle.network_laws.specs.Steps.{done_below}
use Rattle.networks.specs.Networks.{Networked}
use Rattle.networks.proofs.EndLaws.{all_are_done, faulted_round, finished_all, came_further}
use Rattle.networks.proofs.EndLaws.{further}
use Rattle.networks.proofs.network.Network.decide.Goals as goal

pub returns-in-Some-clause-outcome : goal.returns-in-Some-clause-outcome
returns-in-Some-clause-outcome g c =
    λ s files old failed before faults right r done sound reach.
    faulted_round g.M.Machine.shows s c.args.self.now files before faults right old failed
    c.args.answers.now r c.requires.answers sound reach c.in-Some.fault (c.in-Some.ensures.some)

pub returns-then-done_now-len-clause-outcome : goal.returns-then-done_now-len-clause-outcome
returns-then-done_now-len-clause-outcome g c =
    λ s files old failed before faults right r done sound reach.
    let e : length c.args.self.now.nodes ≡ length c.self.inside.parts.nodes.items =
    ap (λ (x : Networked g.row.M.Denot). length x.nodes) (sym c.self.view_is) in
    finished_all g.M.Machine.shows s c.args.self.now files before faults right
    c.self.inside.parts.status
    (ap (λ (x : Networked g.row.M.Denot). x.status) c.self.view_is ∙ right.status)
    (sym (c.done-done_now.ensures files)
    ∙ (let same : c.done-done_now.result ≡ length c.args.self.now.nodes =
    omega (arith, c.if-done_now-len.true, c.len.ensures, c.self.inside.parts.nodes.ok.0, e) in
    same))

pub returns-then-comes_further-clause-further : goal.returns-then-comes_further-clause-further
returns-then-comes_further-clause-further g c =
    λ s files old failed right r done.
    further g.M.Machine.shows s c.args.self.now files 0
    [] right old failed c.args.answers.now r c.requires.answers
    (came_further c.args.done c.done-done_now.result
    (done_below (length c.args.self.now.nodes) old) _ c.args.answers.now done
    (c.done-done_now.ensures files) (c.if-comes_further.ensures.further refl))

pub returns-then-done_now-len-clause-ends : goal.returns-then-done_now-len-clause-ends
returns-then-done_now-len-clause-ends g c = λ s files.
    let e : length c.args.self.now.nodes ≡ length c.self.inside.parts.nodes.items =
    ap (λ (x : Networked g.row.M.Denot). length x.nodes) (sym c.self.view_is) in
    all_are_done g.M.Machine.shows files c.args.self.now
    (sym (c.done-done_now.ensures files)
    ∙ (let same : c.done-done_now.result ≡ length c.args.self.now.nodes =
    omega (arith, c.if-done_now-len.true, c.len.ensures, c.self.inside.parts.nodes.ok.0, e) in
    same))

pub returns-in-Some-clause-ends : goal.returns-in-Some-clause-ends
returns-in-Some-clause-ends g c = λ s files. inr c.in-Some.ensures.some
