use Rattle.std.proofs.Common.{◌≤◌, ◌+◌, ◌-◌, ◌∙◌, ℕ, ap, drop, get_or, false, arith}
use Rattle.byte_filters.specs.inner.Scans.{scanned}
use Rattle.byte_filters.proofs.lemmas.RunLaws.{run_taken}
use Rattle.byte_filters.proofs.segment.skipped.Goals as goal

pub returns-clause-same : goal.returns-clause-same
returns-clause-same c =
    let s = c.args.scan in
    let n = c.fitting-count.result in
    let room : n ≤ c.args.spec.now.width - s.column = omega (arith, c.fitting-count.ensures.value) in
    let some : 1 ≤ n = omega arith in
    ap (λ (k : ℕ). scanned c.args.spec.now
    (record {
      column = k;
      over = false;
      last = get_or c.args.bytes.now (s.at + n) 0;
      at =
          s.at + n;
      found = c.run_found.result;
    }) (drop (s.at + n + 1) c.args.bytes.now)) c.in-Some.ensures.1
    ∙ run_taken n c.args.spec.now s c.args.bytes.now c.run_found.result some
    (omega (arith, c.fitting-count.ensures.few)) c.requires.1 c.fitting-count.ensures.run
    (omega (arith, room)) c.run_found.ensures
