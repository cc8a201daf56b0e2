use Rattle.std.proofs.Common.{◌+◌, ◌*◌, ◌%◌, ◌^◌, ℕ, ap}
use Rattle.byte_filters.proofs.lemmas.StartLaws.{starts_counted, starts_few}
use Rattle.byte_filters.proofs.starts.starts.Goals as goal

pub returns-clause-value : goal.returns-clause-value
returns-clause-value c =
    let here = c.space_mask-here.result in
    starts_counted c.args.before c.args.bytes.now c.args.at _ here c.requires
    c.space_mask-here.ensures (ap (λ (k : ℕ). here * 2 % 2 ^ 64 + k) c.gap.ensures.value)

pub returns-clause-few : goal.returns-clause-few
returns-clause-few c =
    let here = c.space_mask-here.result in
    starts_few c.args.before c.args.bytes.now c.args.at _
    (starts_counted c.args.before c.args.bytes.now c.args.at _ here c.requires
    c.space_mask-here.ensures (ap (λ (k : ℕ). here * 2 % 2 ^ 64 + k) c.gap.ensures.value))
