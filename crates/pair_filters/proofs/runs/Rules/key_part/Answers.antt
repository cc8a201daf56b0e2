use Rattle.std.proofs.Common.{◌∙◌, ap, arith}
use Rattle.lanes.specs.inner.Prefixes.{prefix_bytes}
use Rattle.pair_filters.specs.LineKeys.{key_by}
use Rattle.pair_filters.proofs.lemmas.KeyLaws.{key_short, key_taken}
use Rattle.pair_filters.proofs.runs.Rules.key_part.Goals as goal

pub overflow_sub-len : goal.overflow_sub-len
overflow_sub-len c =
    let rules = c.args.self in
    omega (
      arith,
      c.len.ensures,
      key_short rules (prefix_bytes c.args.content) c.key-key.result.now
          (c.key-key.ensures ∙ ap (key_by rules) c.bytes.ensures),
    )

pub returns : goal.returns
returns c =
    let rules = c.args.self in
    c.part.ensures
    ∙ key_taken rules (prefix_bytes c.args.content) c.key-key.result.now c.len.result c.len-2.result
    c.len.ensures c.len-2.ensures (c.key-key.ensures ∙ ap (key_by rules) c.bytes.ensures)
