use Rattle.std.proofs.Common.{◌≡◌, ◌≤◌}
use Rattle.pipeline_text.specs.inner.Left.{marks_left, bytes_left}
use Rattle.pipeline_text.proofs.scanner.Scanner.scan.Given as goal

abbrev pub invariant-bytes : goal.invariant-bytes
invariant-bytes l = record {
  marks : marks_left l.self ≡ marks_left l.fn.self;
  shorter : bytes_left l.self ≤ bytes_left l.fn.self;
  text : l.self.text.now ≡ l.fn.self.text.now;
}

abbrev pub decreases-bytes : goal.decreases-bytes
decreases-bytes l = bytes_left l.self
