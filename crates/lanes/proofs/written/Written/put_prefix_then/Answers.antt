use Rattle.std.proofs.Common.{◌≡◌, ◌+◌, ◌++◌, ◌∷◌, ◌∙◌, [], List, ℕ, take, ap, arith}
use Rattle.lanes.proofs.written.Written.put_prefix_then.Goals as goal

pub returns-in-Some : goal.returns-in-Some
returns-in-Some c =
    let len = c.self.inside.len in
    let bytes = c.put_chunk_then.new.bytes.items in
    let n : len + (c.len-in-Some-2.result + 1) ≡ len + c.len-in-Some.result + 1 =
    omega (arith, c.len-in-Some.ensures, c.len-in-Some-2.ensures) in
    ap (λ (k : ℕ). take k bytes) n
    ∙ (c.put_chunk_then.ensures.written
    ∙ (ap (λ (x : List ℕ). x ++ (take c.len-in-Some.result c.in-Some.chunk.now ++ c.args.byte ∷ []))
    c.self.view_is
    ∙ ap (λ (x : List ℕ). c.args.self.now ++ (x ++ c.args.byte ∷ []))
    (ap (λ (k : ℕ). take k c.in-Some.chunk.now) c.len-in-Some.ensures ∙ c.in-Some.ensures.2)))
