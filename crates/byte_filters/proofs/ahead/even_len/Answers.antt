use Rattle.byte_filters.proofs.lemmas.AheadLaws.{even_from_bytes, even_from_plain}
use Rattle.byte_filters.proofs.ahead.even_len.Goals as goal

pub returns-then-spec : goal.returns-then-spec
returns-then-spec c = even_from_bytes c.args.spec.now c.args.bytes.now c.content_len.result
    c.if-spec.true c.content_len.ensures

pub returns-else-spec : goal.returns-else-spec
returns-else-spec c = even_from_plain c.args.spec.now c.args.bytes.now c.plain_len.result
    c.plain_len.ensures
