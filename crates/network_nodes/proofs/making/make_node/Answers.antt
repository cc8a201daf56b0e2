use Rattle.std.proofs.Common.{subst, sym, ◌∙◌, List, ℕ}
use Rattle.stages.specs.Inlets.{IsNewReading}
use Rattle.stages.specs.Outlets.{IsNewWriting}
use Rattle.network_nodes.specs.inner.MadeNodes.{AreEach}
use Rattle.network_nodes.proofs.lemmas.FillLaws.{taken_new}
use Rattle.network_nodes.proofs.making.make_node.Goals as goal

pub make_actor-requires-clause-new_outs : goal.make_actor-requires-clause-new_outs
make_actor-requires-clause-new_outs g c =
    taken_new IsNewWriting c.args.writers.now.items c.as_slice-3.result.now
    c.in_ok-writing.writing.items
    (subst (λ (ps : List ℕ). AreEach IsNewWriting c.args.writers.now.items ps)
    (sym (c.as_slice-3.ensures.value ∙ c.in_ok-outs.ensures)) (let side = c.requires.outs in
    side.unused)) c.in_ok-writing.ensures.ends

pub make_actor-requires-clause-new_ins : goal.make_actor-requires-clause-new_ins
make_actor-requires-clause-new_ins g c =
    taken_new IsNewReading c.args.readers.now.items c.as_slice-4.result.now
    c.in_ok-reading.reading.items
    (subst (λ (ps : List ℕ). AreEach IsNewReading c.args.readers.now.items ps)
    (sym (c.as_slice-4.ensures.value ∙ c.in_ok-ins.ensures)) (let side = c.requires.ins in
    side.unused)) c.in_ok-reading.ensures.ends
