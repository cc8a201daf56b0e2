use Rattle.std.proofs.Common.{◌∙◌, ap, drop, get_or, take}
use Rattle.tr_filter.specs.inner.FewSpans.{in_few}
use Rattle.tr_filter.specs.declared.few.Few.{Few}
use Rattle.tr_filter.proofs.few.has_none_of.Goals as goal

pub returns-in-One : goal.returns-in-One
returns-in-One c none k d h =
    ap (λ (few : Few). in_few few (get_or (take 64 (drop c.args.at c.args.bytes.now)) k d))
    c.in-One.is ∙ c.has_none_of_one.ensures none k d h

pub returns-in-Two : goal.returns-in-Two
returns-in-Two c none k d h =
    ap (λ (few : Few). in_few few (get_or (take 64 (drop c.args.at c.args.bytes.now)) k d))
    c.in-Two.is ∙ c.has_none_of_two.ensures none k d h
