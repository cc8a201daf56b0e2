use Rattle.std.proofs.Common.{◌≡◌, ◌+◌, drop, sym, arith, get_or}
use Rattle.std.proofs.lemmas.Bool.{ne_eqb}
use Rattle.machine.specs.Lines.{newline}
use Rattle.byte_filters.specs.inner.Scans.{scanned}
use Rattle.byte_filters.proofs.lemmas.ScanLaws.{goes_at, scanned_more}
use Rattle.byte_filters.proofs.segment.scanned_on.Goals as goal

pub loop-i-preserved : goal.loop-i-preserved
loop-i-preserved c =
    let s = c.loop-i.scan in
    let i = c.loop-i.i in
    let t = c.in-Goes.next in
    let bytes = c.args.bytes.now in
    let spec = c.args.spec.now in
    let g : t.at ≡ s.at + 1 = goes_at spec s t (get_or bytes i 0) (sym c.in-Goes.ensures) in (
      omega (arith, g, c.loop-i.invariant.0),
      scanned_more spec s t bytes i (scanned spec c.args.scan (drop (c.args.scan.at + 1) bytes))
          (omega arith) (ne_eqb (get_or bytes i 0) newline c.if-bytes-i-eq10.false)
          (sym c.in-Goes.ensures) c.loop-i.invariant.1,
    )
