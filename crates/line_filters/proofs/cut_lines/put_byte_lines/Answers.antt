use Rattle.std.proofs.Common.{◌∙◌, ◌≡◌, false, eqb, drop, ap, List, ℕ, length, ◌++◌, ◌-◌, ◌+◌, take}
use Rattle.std.proofs.lemmas.List.{take_rest}
use Rattle.std.specs.List.{All}
use Rattle.machine.specs.Lines.{newline}
use Rattle.commands.specs.Selections.{is_selected, selected_from}
use Rattle.line_filters.proofs.lemmas.LeftLaws.{bytes_walked_line, bytes_walked_on}
use Rattle.line_filters.proofs.lemmas.LeftLaws.{bytes_walked_all}
use Rattle.line_filters.proofs.lemmas.WalkedLaws.{as_walked, walked_to}
use Rattle.line_filters.proofs.cut_lines.put_byte_lines.Goals as goal

pub loop-end-preserved : goal.loop-end-preserved
loop-end-preserved c =
    let l = c.loop-end in
    let bytes = c.args.bytes.now in
    let end = c.in-Some.end in
    let to = walked_to (record { bytes = bytes; byte = newline; from = l.at }) l.ends _
    (end + 1) l.invariant.1 l.invariant.2 (c.in_default-pass_several.ensures
    ∙ c.in-Some.ensures.1) in (
      bytes_walked_line (is_selected c.args.ranges.now.ranges.items) c.args.passed.now l.passed
          c.put_byte_line.new.passed bytes _ l.ends l.at end c.args.made.now l.made
          c.put_byte_line.new.made l.invariant.0 l.invariant.1 l.invariant.2 l.invariant.3
          c.in-Some.ensures.0
          (c.new-rest.ensures ∙ ap (take (end - l.at)) (take_rest bytes l.at))
          c.in_ok-put_byte_line.ensures.made c.in_ok-put_byte_line.ensures.passed,
      to.bytes,
      to.byte,
      to.from,
    )

pub loop-end-preserved-in-Some-pass_several : goal.loop-end-preserved-in-Some-pass_several
loop-end-preserved-in-Some-pass_several c =
    let l = c.loop-end in
    let bytes = c.args.bytes.now in
    let end = c.in-Some.end in
    let last = c.in-Some-pass_several.last in
    let w = c.next_far.new.self in
    let s = is_selected c.args.ranges.now.ranges.items in
    let to = walked_to (record { bytes = bytes; byte = newline; from = l.at }) l.ends w
    (end + 1) l.invariant.1 l.invariant.2 c.in-Some.ensures.1 in
    let on = walked_to (record { bytes = bytes; byte = newline; from = end + 1 }) w _
    (last + 1) to.bytes to.byte c.in-Some-pass_several.ensures.1 in (
      bytes_walked_on s c.args.passed.now c.put_byte_line.new.passed bytes w
          (end + 1) last c.args.made.now c.put_byte_line.new.made c.put_short_lines.new.made
          (bytes_walked_line s c.args.passed.now l.passed c.put_byte_line.new.passed bytes _ l.ends
          l.at end c.args.made.now l.made c.put_byte_line.new.made l.invariant.0 l.invariant.1
          l.invariant.2 l.invariant.3 c.in-Some.ensures.0
          (c.new-rest.ensures ∙ ap (take (end - l.at)) (take_rest bytes l.at))
          c.in_ok-put_byte_line.ensures.made c.in_ok-put_byte_line.ensures.passed)
          c.in_ok-put_byte_line.ensures.passed to.bytes to.byte to.from
          c.in-Some-pass_several.ensures.0 c.in_ok-put_short_lines.ensures,
      on.bytes,
      on.byte,
      on.from,
    )

pub returns : goal.returns
returns c =
    let l = c.loop-end in
    let bytes = c.args.bytes.now in
    let s = is_selected c.args.ranges.now.ranges.items in
    bytes_walked_all s c.args.passed.now l.passed c.put_begun_bytes.new.passed bytes l.at
    c.args.made.now l.made c.put_begun_bytes.new.made l.invariant.0
    (as_walked (λ b x k. All (λ y. eqb y b ≡ false) (drop k x)) l.ends bytes newline l.at
    l.invariant.1 l.invariant.2 l.invariant.3 c.in_default.ensures.0)
    (c.in_ok-put_begun_bytes.ensures.made
    ∙ ap (λ (x : List ℕ). l.made ++ selected_from s (l.passed + 1) x) (take_rest bytes l.at))
    (c.in_ok-put_begun_bytes.ensures.passed
    ∙ ap (λ (x : List ℕ). l.passed + length x) (take_rest bytes l.at))
