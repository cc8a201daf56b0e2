use Rattle.std.proofs.Common.{◌++◌, ◌-◌, ◌+◌, ◌∙◌, List, ℕ, ap, subst, take, drop, length}
use Rattle.std.proofs.Common.{[], true}
use Rattle.std.proofs.lemmas.List.{take_rest}
use Rattle.machine.specs.Lines.{newline, HasNoNewline}
use Rattle.machine.specs.inner.Places.{FirstFrom}
use Rattle.pair_filters.specs.Intakes.{Left, PutsLine, held}
use Rattle.pair_filters.proofs.lemmas.IntakeLaws.{line_put, rest_put}
use Rattle.pair_filters.proofs.intake.Intake.put_line.Goals as goal

pub returns-in_ok-put_part-in-Some : goal.returns-in_ok-put_part-in-Some
returns-in_ok-put_part-in-Some c =
    let s = c.self.inside in
    let xs = held s.piece in
    let new : Left = record { left = drop (c.in-Some.end + 1) xs; closed = s.closed } in
    subst (λ (v : Left). PutsLine v new true c.args.made.now c.put_part.new.self) c.self.view_is
    (line_put xs s.closed s.at c.in-Some.end c.args.made.now c.put_part.new.self
    (subst (λ (ys : List ℕ). FirstFrom ys newline s.at c.in-Some.end) c.bytes_of-bytes.ensures
    c.in-Some.ensures)
    (c.in_ok-put_part-in-Some.ensures
    ∙ ap (λ (ys : List ℕ). c.args.made.now ++ ys) (c.new.ensures
    ∙ (ap (λ (ys : List ℕ). take (c.in-Some.end - s.at)
    (take (length ys - s.at) (drop s.at ys))) c.bytes_of-bytes.ensures
    ∙ ap (take (c.in-Some.end - s.at)) (take_rest xs s.at)))))

pub returns-in_ok-put-in-None : goal.returns-in_ok-put-in-None
returns-in_ok-put-in-None c =
    let s = c.self.inside in
    let xs = held s.piece in
    let new : Left = record { left = []; closed = s.closed } in
    subst (λ (v : Left). PutsLine v new s.closed c.args.made.now c.put.new.self) c.self.view_is
    (rest_put xs s.closed s.at c.args.made.now c.put.new.self
    (subst (λ (ys : List ℕ). HasNoNewline (drop s.at ys)) c.bytes_of-bytes.ensures
    c.in-None.ensures)
    (c.in_ok-put-in-None.ensures
    ∙ (ap (λ (ys : List ℕ). c.args.made.now ++ take (length ys - s.at) (drop s.at ys))
    c.bytes_of-bytes.ensures
    ∙ ap (λ (ys : List ℕ). c.args.made.now ++ ys) (take_rest xs s.at))))
