use Rattle.std.proofs.Common.{◌+◌, ◌++◌, ◌∙◌, List, ℕ, length, take, ap, arith}
use Rattle.std.proofs.lemmas.List.{length-take}
use Rattle.lanes.specs.inner.Prefixes.{prefix_bytes}
use Rattle.lanes.proofs.lemmas.PrefixLaws.{chunks_written}
use Rattle.lanes.proofs.written.Written.put_part.Goals as goal

pub returns-in-Some : goal.returns-in-Some
returns-in-Some c =
    let len = c.self.inside.len in
    let bytes = c.self.inside.bytes.items in
    let chunk = c.in-Some.chunks.now in
    let prefix = prefix_bytes c.args.prefix in
    let is = c.in-Some.ensures in
    ap (λ (k : ℕ). take (len + k) c.put_two.new.bytes.items) c.len-in-Some.ensures
    ∙ (chunks_written (take len bytes) chunk c.put_two.new.bytes.items len (length prefix)
    (omega (arith, c.self.invariant, length-take len bytes)) (is.0)
    (is.1) c.put_two.ensures.copied
    ∙ (ap (λ (x : List ℕ). x ++ take (length prefix) chunk) c.self.view_is
    ∙ ap (λ (x : List ℕ). c.args.self.now ++ x) (is.2)))
