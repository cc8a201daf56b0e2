use Rattle.std.proofs.Common.{◌+◌, drop, not, arith}
use Rattle.byte_filters.specs.inner.Scans.{is_mover}
use Rattle.byte_filters.proofs.lemmas.SkipLaws.{prefix_taken}
use Rattle.byte_filters.proofs.segment.fitting.Goals as goal

pub returns-clause-few : goal.returns-clause-few
returns-clause-few c =
    let rest = drop (c.args.scan.at + 1) c.args.bytes.now in
    omega (
      arith,
      c.min.ensures,
      c.lane_run.ensures,
      (prefix_taken (λ x. not (is_mover x)) 64 rest).1,
    )

pub returns-clause-run : goal.returns-clause-run
returns-clause-run c =
    let rest = drop (c.args.scan.at + 1) c.args.bytes.now in
    omega (
      arith,
      c.min.ensures,
      c.lane_run.ensures,
      (prefix_taken (λ x. not (is_mover x)) 64 rest).0,
    )
