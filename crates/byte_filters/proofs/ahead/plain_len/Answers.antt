use Rattle.std.proofs.Common.{◌≡◌, ◌-◌, drop, length, take, arith}
use Rattle.std.specs.List.{prefix_len}
use Rattle.std.proofs.lemmas.List.{take_rest}
use Rattle.byte_filters.specs.inner.Scans.{is_plain}
use Rattle.byte_filters.proofs.lemmas.AheadLaws.{plain_more}
use Rattle.byte_filters.proofs.lemmas.SkipLaws.{prefix_taken}
use Rattle.byte_filters.proofs.ahead.plain_len.Goals as goal

pub returns-then-run-lt-CHUNK : goal.returns-then-run-lt-CHUNK
returns-then-run-lt-CHUNK c =
    let bytes = c.args.bytes.now in
    let at = c.loop-at.at in
    let rest = take (length bytes - at) (drop at bytes) in
    let n : c.run_above-run.result ≡ prefix_len is_plain (take 64 rest) = c.run_above-run.ensures in
    plain_more bytes rest at c.run_above-run.result (take_rest bytes at) c.loop-at.invariant.1
    (omega (arith, n, (prefix_taken is_plain 64 rest).0))

pub loop-at-preserved : goal.loop-at-preserved
loop-at-preserved c =
    let bytes = c.args.bytes.now in
    let at = c.loop-at.at in
    let rest = take (length bytes - at) (drop at bytes) in
    let n : c.run_above-run.result ≡ prefix_len is_plain (take 64 rest) =
    c.run_above-run.ensures in (
      omega (arith, c.loop-at-test.true, c.loop-at.invariant.0),
      plain_more bytes rest at 64 (take_rest bytes at) c.loop-at.invariant.1
          (omega (arith, n, c.if-run-lt-CHUNK.false, (prefix_taken is_plain 64 rest).0)),
    )

pub returns : goal.returns
returns c =
    let bytes = c.args.bytes.now in
    let at = c.loop-at.at in
    let rest = take (length bytes - at) (drop at bytes) in
    plain_more bytes rest at c.few_plain.result (take_rest bytes at) c.loop-at.invariant.1
    (omega (arith, c.few_plain.ensures.value))
