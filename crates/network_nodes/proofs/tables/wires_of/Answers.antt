use Rattle.std.proofs.Common.{arith, ◌∙◌, sym, map}
use Rattle.std.proofs.lemmas.List.{length-map}
use Rattle.network_nodes.proofs.ShareLaws.{wires_more, two_at}
use Rattle.network_nodes.proofs.tables.wires_of.Goals as goal

pub loop-pipe-preserved : goal.loop-pipe-preserved
loop-pipe-preserved c =
    let old = map (λ v. v.items) c.loop-pipe.wires.items in
    let mid = map (λ v. v.items) c.add_wire.new.wires.items in
    let new = map (λ v. v.items) c.add_wire-in-loop-pipe.new.wires.items in
    let fit = two_at _ c.args.pipes.now (0, 0) c.requires c.loop-pipe.pipe c.loop-pipe-test.true in
    let long = length-map c.loop-pipe.wires.items (λ v. v.items) in
    let more = wires_more c.args.pipes.now c.loop-pipe.pipe old mid new (0, 0) c.loop-pipe-test.true (
      omega (arith, fit.0, long, c.loop-pipe.invariant.lists),
      omega (arith, fit.1, long, c.loop-pipe.invariant.lists),
    ) c.in_ok-add_wire.ensures
    c.in_ok-add_wire-2.ensures c.loop-pipe.invariant.all c.loop-pipe.invariant.only in
    record {
      lists = sym (length-map c.add_wire-in-loop-pipe.new.wires.items (λ v. v.items))
          ∙ (more.lists ∙ (long ∙ c.loop-pipe.invariant.lists));
      all = more.all;
      only = more.only;
    }

pub returns : goal.returns
returns c = record {
  lists = length-map c.loop-pipe.wires.items (λ v. v.items) ∙ c.loop-pipe.invariant.lists;
  all = λ p lt. c.loop-pipe.invariant.all p (omega (arith, lt, c.loop-pipe-test.false));
  only = λ k i p e. let h = c.loop-pipe.invariant.only k i p e in
      let end = c.loop-pipe.auto.pipe-end in let l = h.0 in (omega (arith, l, end), h.1);
}
