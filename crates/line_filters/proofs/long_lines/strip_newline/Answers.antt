use Rattle.std.proofs.Common.{◌≡◌, ◌∙◌, List, ℕ, length, take, ap}
use Rattle.machine.specs.Lines.{content}
use Rattle.line_filters.proofs.lemmas.LongLaws.{content_front}
use Rattle.line_filters.proofs.long_lines.strip_newline.Goals as goal

pub returns : goal.returns
returns c =
    let line = c.args.line.now.items in
    let same : c.line_content-len.result.now ≡ content line = c.line_content-len.ensures
    ∙ ap content c.deref.ensures.value in
    c.truncate.ensures.items ∙ (ap (λ (x : List ℕ). take (length x) line) same ∙ content_front line)
