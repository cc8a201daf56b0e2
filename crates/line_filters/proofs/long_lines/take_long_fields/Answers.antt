use Rattle.std.proofs.Common.{◌≡◌, ◌∙◌, ◌++◌, ◌+◌, ◌-◌, [], List, ℕ, ap, take, length, arith}
use Rattle.commands.specs.declared.cut_words.Parts.TheVariants.{Fields}
use Rattle.commands.specs.Cut.{cut_content, cut_line}
use Rattle.commands.specs.Selections.{is_selected}
use Rattle.line_filters.proofs.lemmas.LineLaws.{walked_more, walked_none, walked_to_end}
use Rattle.line_filters.proofs.lemmas.LongLaws.{front_walked}
use Rattle.std.proofs.lemmas.List.{append-nil}
use Rattle.std.proofs.Common.{sym}
use Rattle.machine.specs.Pieces.{contents}
use Rattle.line_filters.proofs.long_lines.take_long_fields.Goals as goal

pub returns-in_ok-append-in-None-clause-front : goal.returns-in_ok-append-in-None-clause-front
returns-in_ok-append-in-None-clause-front c =
    λ passed.
    let s = is_selected c.args.ranges.now.ranges.items in
    let of_line = cut_line s (Fields c.args.delimiter c.args.only_delimited) in
    let old = c.args.partial.now.items in
    let bytes = c.args.bytes.now in
    front_walked of_line old c.append.new.to.items bytes
    (length bytes) c.args.out.now c.args.out.now [] (sym (append-nil (contents c.args.out.now)))
    (walked_to_end of_line old old c.append.new.to.items bytes 0 [] []
    (walked_none of_line old bytes []) c.in-None.ensures c.in_ok-append-in-None.ensures)

pub returns-in_ok-put_content-in-Some-clause-front :
    goal.returns-in_ok-put_content-in-Some-clause-front
returns-in_ok-put_content-in-Some-clause-front c =
    λ passed.
    let s = is_selected c.args.ranges.now.ranges.items in
    let of = cut_content s (Fields c.args.delimiter c.args.only_delimited) in
    let old = c.args.partial.now.items in
    let bytes = c.args.bytes.now in
    let end = c.in-Some.end in
    let from : end ≡ end - 0 = omega arith in
    let whole = of (old ++ take end bytes) in
    front_walked (cut_line s (Fields c.args.delimiter c.args.only_delimited)) old
    c.put_content.new.line.items bytes (end + 1) c.args.out.now c.put_content.new.out whole
    (c.in_ok-put_content-in-Some.ensures.ok
    ∙ ap (λ (x : List ℕ). contents c.args.out.now ++ of x) c.in_ok-append-in-Some.ensures)
    (walked_more of old old c.put_content.new.line.items bytes 0 end [] [] whole
    (walked_none (cut_line s (Fields c.args.delimiter c.args.only_delimited)) old bytes [])
    c.in-Some.ensures (ap (λ (k : ℕ). of (old ++ take k bytes)) from)
    c.in_ok-put_content-in-Some.ensures.line)
