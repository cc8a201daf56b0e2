use Rattle.std.proofs.Common.{◌++◌, List, ℕ, drop, length, ◌-◌, subst, take, ◌∙◌, ap}
use Rattle.std.proofs.lemmas.List.{take_rest}
use Rattle.machine.specs.Pieces.{Adds}
use Rattle.machine.proofs.Cuts.{contents_added}
use Rattle.machine.proofs.InOrderLaws.{here_is}
use Rattle.machine.specs.declared.protocol.Presence.TheVariants.{Present, Missing}
use Rattle.line_filters.specs.CutLeft.{cut_input, cut_left}
use Rattle.line_filters.specs.inner.LongLines.{PutsFront}
use Rattle.commands.specs.Selections.{is_selected}
use Rattle.line_filters.proofs.lemmas.ByLineLaws.{input_feeds, input_skips, makes_of}
use Rattle.line_filters.proofs.lemmas.LongLaws.{front_added, front_made}
use Rattle.line_filters.proofs.cut.CutMachine.feed.Goals as goal

pub returns-in-Missing-clause-ok : goal.returns-in-Missing-clause-ok
returns-in-Missing-clause-ok c =
    let m = c.args.self.now in
    let s = is_selected m.ranges.ranges.items in
    input_skips (cut_input s m.parts) (cut_left s m.parts m.partial.items m.passed) m.inputs.at
    m.inputs.presence c.args._input c.args.piece c.args.out.now c.requires
    (here_is m.inputs.presence m.inputs.at c.here.result Missing c.here.ensures c.in-Missing.is)

pub returns-clause-ok : goal.returns-clause-ok
returns-clause-ok c =
    let m = c.args.self.now in
    let s = is_selected m.ranges.ranges.items in
    let left = cut_left s m.parts m.partial.items m.passed in
    let left1 = cut_left s m.parts c.take_long_line.new.partial.items m.passed in
    let left2 = cut_left s m.parts c.put_lines.new.partial.items c.put_lines.new.passed in
    let out1 = c.take_long_line.new.out in
    let out2 = c.push_bytes.new.self in
    let piece = c.args.piece in
    let at = c.in_ok-at-in-Present.at in
    let front = subst (λ (x : List ℕ). PutsFront left left1 x at c.args.out.now out1)
    c.bytes-bytes.ensures.value (c.in_ok-at-in-Present.ensures.front m.passed) in
    let rest = take_rest c.bytes-bytes.result.now at ∙ ap (drop at) c.bytes-bytes.ensures.value in
    let made = c.put_lines.new.made in
    input_feeds (cut_input s m.parts) left left2 m.inputs.at m.inputs.presence c.args._input piece
    (front.made ++ made) c.args.out.now out2 c.requires
    (here_is m.inputs.presence m.inputs.at c.here.result Present c.here.ensures c.in-Present.is)
    (front_added left left1 piece made at c.args.out.now out1 out2 front
    (contents_added out1 out2 made
    (subst (λ (x : List ℕ). Adds out1 out2 x) c.bytes.ensures
    c.in_ok-push_bytes-in-Present.ensures.ok)))
    (front_made left left1 left2 piece made at c.args.out.now out1 front
    (makes_of left1 left2 (take (length c.bytes-bytes.result.now - at)
    (drop at c.bytes-bytes.result.now))
    (drop at piece) c.clear.new.self made rest c.clear.ensures
    c.in_ok-put_lines-in-Present.ensures.lines))
