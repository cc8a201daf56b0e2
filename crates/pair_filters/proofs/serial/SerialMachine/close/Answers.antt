use Rattle.std.proofs.Common.{◌++◌, ◌∙◌, List, ℕ, ap, sym, subst, get_or}
use Rattle.machine.specs.Law.{Closes}
use Rattle.machine.specs.declared.protocol.Presence.{Presence}
use Rattle.machine.specs.declared.protocol.Presence.TheVariants.{Missing}
use Rattle.machine.specs.Pieces.{Adds}
use Rattle.machine.proofs.Cuts.{contents_added}
use Rattle.pair_filters.specs.Operands.{repeated_line}
use Rattle.pair_filters.specs.SerialShows.{joining}
use Rattle.pair_filters.specs.declared.serial.Joint.{Joint}
use Rattle.pair_filters.proofs.lemmas.SerialFeeds.{serial_closes, passes_as, first_as}
use Rattle.pair_filters.proofs.serial.SerialMachine.close.Goals as goal

pub returns-clause-ok : goal.returns-clause-ok
returns-clause-ok c =
    let m = c.args.self.now in
    let i = c.args.input in
    let ds = m.delimiters.items in
    let cs = m.columns.items in
    let ps = m.inputs.items in
    let made = c.put_end.new.made in
    let made' = c.next_operand.new.made in
    let column' = c.in_ok-column.column in
    subst (λ (j : Joint). Closes i (joining ds cs ps m.column m.joint)
    (joining ds cs ps column' j) c.args.out.now c.push_bytes.new.self)
    (sym c.begin_again.ensures)
    (serial_closes ds cs ps m.column column' m.joint i made made' c.args.out.now
    c.push_bytes.new.self m.settled c.requires
    (c.in_ok-put_end.ensures
    ∙ (ap (λ (x : List ℕ). x ++ repeated_line (get_or c.as_slice.result.now i Missing))
    c.clear.ensures
    ∙ ap (λ (xs : List Presence). repeated_line (get_or xs i Missing)) c.as_slice.ensures.value))
    (passes_as ds _ cs _ ps _ column' made made' c.as_slice-2.ensures.value
    c.as_slice-3.ensures.value (c.in_ok-column.ensures.passed ds))
    (first_as _ cs _ ps column' c.as_slice-2.ensures.value c.as_slice-3.ensures.value
    c.in_ok-column.ensures.first)
    (contents_added c.args.out.now c.push_bytes.new.self made'
    (subst (λ (x : List ℕ). Adds c.args.out.now c.push_bytes.new.self x) c.bytes.ensures
    c.in_ok-push_bytes.ensures.ok)))
