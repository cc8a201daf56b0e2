use Rattle.std.proofs.Common.{◌++◌, ◌∷◌, ◌∙◌, [], List, ℕ, take, ap, arith, append_assoc}
use Rattle.std.proofs.lemmas.List.{length-take}
use Rattle.lanes.proofs.lemmas.PrefixLaws.{chunk_written}
use Rattle.lanes.proofs.written.put_chunk_then.Goals as goal

pub returns-clause-written : goal.returns-clause-written
returns-clause-written c =
    let old = take c.args.at c.args.bytes.now.items in
    let chunk = c.args.chunk.now in
    c.put_at.ensures.written
    ∙ (ap (λ (x : List ℕ). x ++ c.args.byte ∷ [])
    (chunk_written old chunk c.put_chunk.new.bytes.items c.args.at c.args.len
    (omega (arith, c.requires.room, length-take c.args.at c.args.bytes.now.items))
    c.requires.chunk c.requires.len c.put_chunk.ensures.copied)
    ∙ append_assoc old (take c.args.len chunk) (c.args.byte ∷ []))
