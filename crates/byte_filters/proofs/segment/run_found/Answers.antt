use Rattle.std.proofs.Common.{◌+◌, ◌∷◌, ◌∙◌, drop, sym}
use Rattle.byte_filters.proofs.lemmas.EvenLaws.{never_broken}
use Rattle.byte_filters.proofs.lemmas.RunLaws.{blank_run}
use Rattle.byte_filters.proofs.segment.run_found.Goals as goal

pub returns-then-spec : goal.returns-then-spec
returns-then-spec c =
    let s = c.args.scan in
    c.last_cut.ensures
    ∙ blank_run c.args.count c.args.spec.now s.found s.at s.last
    (drop (s.at + 1) c.args.bytes.now) c.if-spec.true c.requires.run

pub returns-else-spec : goal.returns-else-spec
returns-else-spec c =
    let s = c.args.scan in
    sym (never_broken c.args.spec.now s.found s.at c.args.count
    (s.last ∷ drop (s.at + 1) c.args.bytes.now) c.if-spec.false)
