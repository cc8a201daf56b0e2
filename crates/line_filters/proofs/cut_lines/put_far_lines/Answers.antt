use Rattle.lanes.specs.inner.Walks.{Sought}
use Rattle.commands.specs.declared.cut_words.Parts.TheVariants.{Fields}
use Rattle.commands.specs.Cut.{cut_content, cut_line}
use Rattle.commands.specs.Selections.{is_selected}
use Rattle.machine.specs.Lines.{newline}
use Rattle.std.specs.List.{All}
use Rattle.std.proofs.Common.{refl, cond, [], ◌∙◌, ◌≡◌, false, eqb, drop, ap, List, ℕ, ◌++◌, ◌-◌}
use Rattle.std.proofs.Common.{◌+◌, take}
use Rattle.std.proofs.lemmas.List.{take_rest}
use Rattle.line_filters.proofs.lemmas.WalkedLaws.{as_walked, walked_to}
use Rattle.line_filters.proofs.lemmas.LineLaws.{walked_line, walked_to_end}
use Rattle.line_filters.proofs.lemmas.WholeLaws.{none_there, whole_on}
use Rattle.line_filters.proofs.cut_lines.put_far_lines.Goals as goal

pub loop-end-preserved : goal.loop-end-preserved
loop-end-preserved c =
    let l = c.loop-end in
    let bytes = c.args.bytes.now in
    let end = c.in-Some.end in
    let of = cut_content (is_selected c.args.ranges.now.ranges.items) in
    let same = c.in_default-pass_without.ensures.same ∙ c.part-rest.ensures.same in
    let to = walked_to (record { bytes = bytes; byte = newline; from = l.at }) l.ends _
    (end + 1) l.invariant.1 l.invariant.2 (c.in_default-pass_without.ensures.passed
    ∙ c.in-Some.ensures.1) in (
      walked_line (of (Fields c.args.delimiter c.args.only_delimited)) c.args.partial.now.items
          l.partial.items c.put_field_line.new.partial.items bytes
          (take (end - l.at) (drop l.at bytes)) l.ends l.at end c.args.made.now l.made
          c.put_field_line.new.made l.invariant.0 l.invariant.1 l.invariant.2 l.invariant.3
          c.in-Some.ensures.0 refl
          (c.in_ok-put_field_line.ensures.made
          ∙ (ap (λ (p : Sought). l.made ++ of (Fields p.byte c.args.only_delimited)
          (l.partial.items ++ p.bytes)) c.part-rest.ensures.part
          ∙ (ap (λ (d : ℕ). l.made ++ of (Fields d c.args.only_delimited)
          (l.partial.items ++ take (end - l.at) (drop l.at l.contents.bytes))) l.invariant.5
          ∙ ap (λ (x : List ℕ). l.made ++ of (Fields c.args.delimiter c.args.only_delimited)
          (l.partial.items ++ take (end - l.at) (drop l.at x))) l.invariant.4)))
          c.in_ok-put_field_line.ensures.partial,
      to.bytes,
      to.byte,
      to.from,
      ap (λ (w : Sought). w.bytes) same ∙ l.invariant.4,
      ap (λ (w : Sought). w.byte) same ∙ l.invariant.5,
    )

pub loop-end-preserved-in-Some-pass_without : goal.loop-end-preserved-in-Some-pass_without
loop-end-preserved-in-Some-pass_without c =
    let l = c.loop-end in
    let bytes = c.args.bytes.now in
    let end = c.in-Some.end in
    let last = c.in-Some-pass_without.last in
    let of = cut_content (is_selected c.args.ranges.now.ranges.items) in
    let w = c.next_line.new.self in
    let passed = c.in-Some-pass_without.ensures.passed in
    let b = ap (λ (p : Sought). p.bytes) c.part-rest.ensures.same ∙ l.invariant.4 in
    let d = ap (λ (p : Sought). p.byte) c.part-rest.ensures.same ∙ l.invariant.5 in
    let same = c.in-Some-pass_without.ensures.same in
    let to = walked_to (record { bytes = bytes; byte = newline; from = l.at }) l.ends w
    (end + 1) l.invariant.1 l.invariant.2 c.in-Some.ensures.1 in
    let on = walked_to (record { bytes = bytes; byte = newline; from = end + 1 }) w _
    (last + 1) to.bytes to.byte passed.1 in (
      whole_on (is_selected c.args.ranges.now.ranges.items) c.args.delimiter c.args.only_delimited
          c.args.partial.now.items c.put_field_line.new.partial.items bytes w
          (end + 1) last c.args.made.now c.put_field_line.new.made c.put_lines_whole.new.made
          (walked_line (of (Fields c.args.delimiter c.args.only_delimited)) c.args.partial.now.items
          l.partial.items c.put_field_line.new.partial.items bytes
          (take (end - l.at) (drop l.at bytes)) l.ends l.at end c.args.made.now l.made
          c.put_field_line.new.made l.invariant.0 l.invariant.1 l.invariant.2 l.invariant.3
          c.in-Some.ensures.0 refl
          (c.in_ok-put_field_line.ensures.made
          ∙ (ap (λ (p : Sought). l.made ++ of (Fields p.byte c.args.only_delimited)
          (l.partial.items ++ p.bytes)) c.part-rest.ensures.part
          ∙ (ap (λ (d : ℕ). l.made ++ of (Fields d c.args.only_delimited)
          (l.partial.items ++ take (end - l.at) (drop l.at l.contents.bytes))) l.invariant.5
          ∙ ap (λ (x : List ℕ). l.made ++ of (Fields c.args.delimiter c.args.only_delimited)
          (l.partial.items ++ take (end - l.at) (drop l.at x))) l.invariant.4)))
          c.in_ok-put_field_line.ensures.partial)
          c.in_ok-put_field_line.ensures.partial to.bytes to.byte to.from passed.0
          (none_there c.part-rest.new.self bytes c.args.delimiter (end + 1)
          (last + 1 - (end + 1)) b d passed.2)
          (c.in_ok-put_lines_whole.ensures
          ∙ ap (λ (x : List ℕ). c.put_field_line.new.made ++ cond c.args.only_delimited [] x)
          (c.new.ensures ∙ ap (take (last + 1 - (end + 1))) (take_rest bytes (end + 1)))),
      on.bytes,
      on.byte,
      on.from,
      ap (λ (p : Sought). p.bytes) same ∙ b,
      ap (λ (p : Sought). p.byte) same ∙ d,
    )

pub returns-clause-lines : goal.returns-clause-lines
returns-clause-lines c =
    let l = c.loop-end in
    walked_to_end (cut_line (is_selected c.args.ranges.now.ranges.items)
    (Fields c.args.delimiter c.args.only_delimited)) c.args.partial.now.items l.partial.items
    c.append.new.to.items c.args.bytes.now l.at c.args.made.now l.made l.invariant.0
    (as_walked (λ b x k. All (λ y. eqb y b ≡ false) (drop k x)) l.ends c.args.bytes.now newline l.at
    l.invariant.1 l.invariant.2 l.invariant.3 c.in_default.ensures.0)
    (c.in_ok-append.ensures ∙ ap (λ (x : List ℕ). l.partial.items ++ x)
    (take_rest c.args.bytes.now l.at))

pub returns-then-bytes-at-ge-AHEAD-clause-lines : goal.returns-then-bytes-at-ge-AHEAD-clause-lines
returns-then-bytes-at-ge-AHEAD-clause-lines c =
    let l = c.loop-end in
    let bytes = c.args.bytes.now in
    let end = c.in-Some.end in
    let of = cut_content (is_selected c.args.ranges.now.ranges.items) in
    walked_line (of (Fields c.args.delimiter c.args.only_delimited)) c.args.partial.now.items
    l.partial.items c.put_field_line.new.partial.items bytes
    (take (end - l.at) (drop l.at bytes)) l.ends l.at end c.args.made.now l.made
    c.put_field_line.new.made l.invariant.0 l.invariant.1 l.invariant.2 l.invariant.3
    c.in-Some.ensures.0 refl
    (c.in_ok-put_field_line.ensures.made
    ∙ (ap (λ (p : Sought). l.made ++ of (Fields p.byte c.args.only_delimited)
    (l.partial.items ++ p.bytes)) c.part-rest.ensures.part
    ∙ (ap (λ (d : ℕ). l.made ++ of (Fields d c.args.only_delimited)
    (l.partial.items ++ take (end - l.at) (drop l.at l.contents.bytes))) l.invariant.5
    ∙ ap (λ (x : List ℕ). l.made ++ of (Fields c.args.delimiter c.args.only_delimited)
    (l.partial.items ++ take (end - l.at) (drop l.at x))) l.invariant.4)))
    c.in_ok-put_field_line.ensures.partial
