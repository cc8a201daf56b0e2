use Rattle.std.proofs.Common.{◌<◌, ◌≤◌, ◌∙◌, [], Some, map, ap, refl, arith, sym, length, drop}
use Rattle.std.proofs.Common.{List, ℕ, subst}
use Rattle.std.proofs.lemmas.List.{get_or_read}
use Rattle.machine.specs.declared.protocol.Presence.TheVariants.{Missing}
use Rattle.machine.specs.Pieces.{Adds}
use Rattle.machine.proofs.Cuts.{contents_added}
use Rattle.pair_filters.specs.SerialShows.{wanted_first}
use Rattle.pair_filters.proofs.lemmas.SerialFeeds.{serial_feeds, serial_skips, joins_as}
use Rattle.pair_filters.proofs.serial.SerialMachine.feed.Goals as goal

pub returns-in-Missing-clause-ok : goal.returns-in-Missing-clause-ok
returns-in-Missing-clause-ok c =
    let m = c.args.self.now in
    let i = c.args.input in
    let ps = m.inputs.items in
    let low : i < length ps =
    (wanted_first m.columns.items (length ps) m.column
    (drop m.column m.columns.items) i m.settled c.requires).0 in
    serial_skips m.delimiters.items m.columns.items ps m.column m.joint i c.args.piece
    c.args.out.now
    (sym (get_or_read ps i c.index.result.now low c.index.ensures Missing) ∙ c.in-Missing.is)

pub returns-clause-ok : goal.returns-clause-ok
returns-clause-ok c =
    let m = c.args.self.now in
    let i = c.args.input in
    let ps = m.inputs.items in
    let made = c.put_lines.new.made in
    let low : i < length ps =
    (wanted_first m.columns.items (length ps) m.column
    (drop m.column m.columns.items) i m.settled c.requires).0 in
    serial_feeds m.delimiters.items m.columns.items ps m.column m.joint c.put_lines.new.joint i
    c.args.piece made c.args.out.now c.push_bytes.new.self c.requires
    (sym (get_or_read ps i c.index.result.now low c.index.ensures Missing) ∙ c.in-Present.is)
    (joins_as _ m.delimiters.items m.joint c.put_lines.new.joint _ c.args.piece _ made
    c.as_slice.ensures.value c.bytes-in-Present.ensures.value c.clear.ensures
    c.in_ok-put_lines-in-Present.ensures)
    (contents_added c.args.out.now c.push_bytes.new.self made
    (subst (λ (x : List ℕ). Adds c.args.out.now c.push_bytes.new.self x)
    c.bytes-in-Present-2.ensures c.in_ok-push_bytes-in-Present.ensures.ok))

pub returns-then-self-len-clause-ok : goal.returns-then-self-len-clause-ok
returns-then-self-len-clause-ok c =
    let m = c.args.self.now in
    let i = c.args.input in
    let ps = m.inputs.items in
    let made = c.in_ok-made-in-Present.made.items in
    let some : 1 ≤ length m.circle.items =
    omega (arith, c.if-self-len.true, c.len.ensures, m.circle.ok) in
    let low : i < length ps =
    (wanted_first m.columns.items (length ps) m.column
    (drop m.column m.columns.items) i m.settled c.requires).0 in
    serial_feeds m.delimiters.items m.columns.items ps m.column m.joint c.join_piece.new.joint i
    c.args.piece made c.args.out.now c.push_vec.new.self c.requires
    (sym (get_or_read ps i c.index.result.now low c.index.ensures Missing) ∙ c.in-Present.is)
    (joins_as _ m.delimiters.items m.joint c.join_piece.new.joint _ c.args.piece [] made
    (ap (map Some) c.as_slice-circle.ensures.value
    ∙ m.bytes some) c.bytes.ensures.value refl c.in_ok-made-in-Present.ensures)
    (contents_added c.args.out.now c.push_vec.new.self made c.in_ok-push_vec-in-Present.ensures.ok)
