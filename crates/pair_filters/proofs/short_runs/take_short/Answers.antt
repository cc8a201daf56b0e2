use Rattle.std.proofs.Common.{◌+◌, ◌-◌, ◌++◌, ◌∙◌, [], Bool, List, ℕ, cond, length, take, drop, ap}
use Rattle.commands.specs.Uniq.{run_text}
use Rattle.pair_filters.specs.UniqSteps.{one_more}
use Rattle.pair_filters.specs.inner.ShortSteps.{line_at}
use Rattle.pair_filters.proofs.lemmas.KeyLaws.{kept_content, kept_ended}
use Rattle.pair_filters.proofs.lemmas.ShortLaws.{alike_is, text_after, whole_line}
use Rattle.pair_filters.proofs.short_runs.take_short.Goals as goal

pub put_short_run-after-requires-clause-ended : goal.put_short_run-after-requires-clause-ended
put_short_run-after-requires-clause-ended c =
    let bytes = c.args.bytes.now in
    let last = c.args.last in
    kept_ended (line_at bytes last.start last.end)
    (take (last.end + 1 - last.start)
    (take (length bytes - last.start) (drop last.start bytes)))
    (whole_line bytes last c.requires.line)

pub returns-clause-count : goal.returns-clause-count
returns-clause-count c =
    let last = c.args.last in
    c.count_after-count.ensures
    ∙ ap (λ (b : Bool). cond b (one_more c.args.shown last.count) 1)
    (alike_is c.args.bytes.now last c.args.end c.begin_alike-is_same.result c.requires.line
    c.requires.next c.begin_alike-is_same.ensures)

pub returns-clause-made : goal.returns-clause-made
returns-clause-made c =
    let bytes = c.args.bytes.now in
    let last = c.args.last in
    let few = c.args.few.now in
    let line = line_at bytes last.start last.end in
    let text = run_text c.args.shown line last.count in
    let whole = take (last.end + 1 - last.start)
    (take (length bytes - last.start) (drop last.start bytes)) in
    let p = c.put_short_run-after in
    text_after c.begin_alike-is_same.result c.end_after.result c.args.to p.result p.new.few few text
    c.end_after.ensures
    (p.ensures.made ∙ ap (λ (x : List ℕ). take c.args.to few ++ run_text c.args.shown x last.count)
    (kept_content line whole (whole_line bytes last c.requires.line)))
    p.ensures.kept
    ∙ ap (λ (b : Bool). take c.args.to few ++ cond b [] text)
    (alike_is bytes last c.args.end c.begin_alike-is_same.result c.requires.line c.requires.next
    c.begin_alike-is_same.ensures)
