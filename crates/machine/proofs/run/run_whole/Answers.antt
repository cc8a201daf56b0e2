use Rattle.std.proofs.Common.{ap, ◌∙◌, sym, rules}
use Rattle.machine.specs.Pieces.{contents}
use Rattle.machine.proofs.lemmas.RunLaws.{run_none, run_more, run_finished, run_closed}
use Rattle.machine.proofs.lemmas.RunLaws.{run_too_large, run_too_large_closed}
use Rattle.machine.proofs.run.run_whole.Goals as goal

pub loop-piece-init : goal.loop-piece-init
loop-piece-init g c = run_none (g.M.Machine.shows c.args.machine) c.args.pieces c.new-out.result
    (ap contents c.new-out.ensures)

pub loop-piece-preserved : goal.loop-piece-preserved
loop-piece-preserved g c =
    run_more (g.M.Machine.shows c.args.machine) (g.M.Machine.shows c.loop-piece.machine)
    (g.M.Machine.shows c.feed.new.self) c.args.pieces c.loop-piece.pieces c.pop_front.new.self
    c.loop-piece.out c.feed.new.out c.in-Take.input c.in-Some.piece
    (g.met.M.Machine.lawful c.loop-piece.machine) (sym c.want.ensures
    ∙ c.in-Take.is) c.in-Some.ensures.some c.feed.ensures.same.0 c.in_ok-feed-in-Take.ensures.ok
    c.loop-piece.invariant

pub returns-in_err-feed-in-Take-clause-too_large : goal.returns-in_err-feed-in-Take-clause-too_large
returns-in_err-feed-in-Take-clause-too_large g c =
    λ whole new fault. run_too_large (g.M.Machine.shows c.args.machine)
    (g.M.Machine.shows c.loop-piece.machine) c.args.pieces c.loop-piece.pieces
    c.pop_front.new.self c.loop-piece.out c.in-Take.input c.in-Some.piece whole
    c.loop-piece.invariant c.in-Some.ensures.some (g.met.M.Machine.lawful c.loop-piece.machine)
    (sym c.want.ensures ∙ c.in-Take.is)
    (c.in_err-feed-in-Take.ensures.too_large (search rules)) new

pub returns-in_err-close-in-Take-want-clause-too_large :
    goal.returns-in_err-close-in-Take-want-clause-too_large
returns-in_err-close-in-Take-want-clause-too_large g c =
    λ whole new fault. run_too_large_closed (g.M.Machine.shows c.args.machine)
    (g.M.Machine.shows c.loop-piece.machine) c.args.pieces c.loop-piece.pieces c.loop-piece.out
    c.in-Take-want.input whole c.loop-piece.invariant c.in_default.ensures.none.0
    (c.in_err-close-in-Take-want.ensures.too_large (search rules)) new

pub returns-in-Take-want-clause-out : goal.returns-in-Take-want-clause-out
returns-in-Take-want-clause-out g c =
    λ whole new. run_closed (g.M.Machine.shows c.args.machine)
    (g.M.Machine.shows c.loop-piece.machine)
    (g.M.Machine.shows c.close.new.self) c.args.pieces c.loop-piece.pieces c.loop-piece.out
    c.close.new.out c.in-Take-want.input whole c.loop-piece.invariant
    c.in_default.ensures.none.0 (g.met.M.Machine.lawful c.loop-piece.machine)
    (g.met.M.Machine.lawful c.close.new.self) (sym c.want-2.ensures
    ∙ c.in-Take-want.is) c.close.ensures.same.0 c.in_ok-close-in-Take-want.ensures.ok new

pub returns-in-Finished-clause-out : goal.returns-in-Finished-clause-out
returns-in-Finished-clause-out g c =
    λ whole new. run_finished (g.M.Machine.shows c.args.machine)
    (g.M.Machine.shows c.loop-piece.machine) c.args.pieces c.loop-piece.pieces c.loop-piece.out
    whole c.loop-piece.invariant (g.met.M.Machine.lawful c.loop-piece.machine)
    (sym c.want.ensures ∙ c.in-Finished.is) new

pub returns-clause-out : goal.returns-clause-out
returns-clause-out g c =
    λ whole new. run_finished (g.M.Machine.shows c.args.machine)
    (g.M.Machine.shows c.loop-piece.machine) c.args.pieces c.loop-piece.pieces c.loop-piece.out
    whole c.loop-piece.invariant (g.met.M.Machine.lawful c.loop-piece.machine)
    (sym c.want-2.ensures ∙ c.in-Finished-want.is) new
