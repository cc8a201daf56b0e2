use Rattle.std.proofs.Common.{◌<◌, length, sym, subst}
use Rattle.std.specs.List.{HoldsAt}
use Rattle.machine.specs.declared.piece.Item.{Item}
use Rattle.bounded_pipe.specs.Events.{Takes}
use Rattle.stages.specs.Inlets.{Taking, SameTaking, IsDrained}
use Rattle.stages.specs.inner.Moves.{TakesOne}
use Rattle.stages.proofs.lemmas.Inputs.{if_some_as, with_end, takes_one, takes_none, drained_at}
use Rattle.stages.proofs.inlet.Inlet.take.Goals as goal

pub returns-clause-some : goal.returns-clause-some
returns-clause-some c =
    let i = c.self.inside in
    let o : Taking = record { pipes = i.pipes.items; ends = i.ends.items; hung_up = i.hung_up } in
    let r = c.index_mut.result.now in
    let s = c.take.new.self in
    let within = subst (λ (x : Taking). c.args.k < length x.ends) (sym c.self.view_is) c.requires in
    if_some_as (λ (item : Item). Takes item r s)
    (λ item. TakesOne c.args.k item c.args.self.now (with_end o c.args.k s)) c.take.result
    (λ item t. subst (λ (x : Taking). TakesOne c.args.k item x (with_end o c.args.k s))
    c.self.view_is (takes_one o c.args.k r s item within c.index_mut.ensures.value t))
    c.take.ensures.some

pub returns-clause-none : goal.returns-clause-none
returns-clause-none c =
    λ none.
    let i = c.self.inside in
    let o : Taking = record { pipes = i.pipes.items; ends = i.ends.items; hung_up = i.hung_up } in
    let r = c.index_mut.result.now in
    let s = c.take.new.self in
    let within = subst (λ (x : Taking). c.args.k < length x.ends)
    (sym c.self.view_is) c.requires in (
      subst (λ (x : Taking). SameTaking x (with_end o c.args.k s)) c.self.view_is
          (takes_none o c.args.k r s c.index_mut.ensures.value (c.take.ensures.none none)),
      subst (λ (x : Taking). HoldsAt IsDrained x.ends c.args.k) c.self.view_is
          (drained_at o.ends c.args.k r within c.index_mut.ensures.value
          (c.take.ensures.empty none)),
    )
