use Rattle.std.proofs.Common.{◌+◌, ◌-◌, ◌∙◌, ◌++◌, ap, drop, take, arith, List, ℕ}
use Rattle.std.proofs.lemmas.List.{take_rest}
use Rattle.line_filters.proofs.lemmas.NearLaws.{copied_some, copied_two}
use Rattle.line_filters.proofs.near_lines.copy_near.Goals as goal

pub returns-then-end-start-le64-clause-copied : goal.returns-then-end-start-le64-clause-copied
returns-then-end-start-le64-clause-copied c =
    copied_some c.args.few.now (drop c.args.start c.args.bytes.now) c.put_few.new.bytes c.args.to 64
    (c.args.end - c.args.start) (omega (arith, c.requires.room))
    (omega (arith, c.if-end-start-le64.true)) (c.put_few.ensures.copied
    ∙ ap (λ (x : List ℕ). take c.args.to c.args.few.now ++ take 64 x)
    (take_rest c.args.bytes.now c.args.start))

pub returns-clause-copied : goal.returns-clause-copied
returns-clause-copied c =
    copied_some c.args.few.now (drop c.args.start c.args.bytes.now) c.put_few-2.new.bytes c.args.to
    128 (c.args.end - c.args.start) (omega (arith, c.requires.room))
    (omega (arith, c.requires.order))
    (copied_two c.args.few.now c.args.bytes.now c.put_few.new.bytes c.put_few-2.new.bytes c.args.to
    c.args.start
    (c.put_few.ensures.copied ∙ ap (λ (x : List ℕ). take c.args.to c.args.few.now ++ take 64 x)
    (take_rest c.args.bytes.now c.args.start))
    (c.put_few-2.ensures.copied
    ∙ ap (λ (x : List ℕ). take (c.args.to + 64) c.put_few.new.bytes ++ take 64 x)
    (take_rest c.args.bytes.now (c.args.start + 64))))
