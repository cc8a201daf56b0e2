use Rattle.std.proofs.Common.{set, ap, ◌∙◌, sym}
use Rattle.std.proofs.lemmas.List.{get_or_default}
use Rattle.network_nodes.specs.declared.actor.Actor.{Actor}
use Rattle.network_nodes.specs.declared.actor.Actor.TheVariants as an
use Rattle.lending.proofs.lemmas.TakeLaws.{stage_within, taken_is}
use Rattle.lending.proofs.lent.take_out.Goals as goal

pub bounds-nodes-place : goal.bounds-nodes-place
bounds-nodes-place g c = stage_within c.args.nodes.now c.args.place c.requires.stage

pub unreachable-requires : goal.unreachable-requires
unreachable-requires g c =
    let t = taken_is c.args.nodes.now c.args.place c.index-nodes-place.result c.replace.result
    c.requires.stage c.replace.ensures.value in
    c.in_default.not-Stage t.0 t.1

pub returns : goal.returns
returns g c = record {
  nodes = ap (λ (a : Actor g.row.M.Denot). set c.args.nodes.now c.args.place a)
      c.replace.ensures.after;
  stage = get_or_default c.args.nodes.now c.args.place an.Lent c.index-nodes-place.result
      (stage_within c.args.nodes.now c.args.place c.requires.stage)
      ∙ (sym c.replace.ensures.value ∙ c.in-Stage.is);
}
