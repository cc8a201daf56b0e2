use Rattle.std.proofs.Common.{sym}
use Rattle.commands.specs.Keys.{after_fields}
use Rattle.pair_filters.proofs.lemmas.KeyLaws.{fields_over}
use Rattle.pair_filters.proofs.keys.after_fields.Goals as goal

pub returns-then-is_empty : goal.returns-then-is_empty
returns-then-is_empty c =
    fields_over c.loop-left.left c.loop-left.rest.now (after_fields c.args.n c.args.content.now)
    (sym c.if-is_empty.ensures) c.loop-left.invariant
