use Rattle.std.proofs.Common.{List, ℕ, ◌∷◌, subst, sym}
use Rattle.collector.proofs.Logs.{PiecesWritten, front_written, no_piece_written, piece_written}
use Rattle.collector.proofs.Logs.{writes_on}
use Rattle.collector.proofs.Results.{on_err}
use Rattle.collector.proofs.writing.write_pieces.Goals as goal

pub loop-first-init : goal.loop-first-init
loop-first-init g c = no_piece_written c.args.file c.args.pieces.now
    (g.F.Files.shows c.args.files.now) c.requires.opened

pub returns-in_err-write_all-clause-err : goal.returns-in_err-write_all-clause-err
returns-in_err-write_all-clause-err g c =
    let first = g.F.Files.shows c.args.files.now in
    let mid = g.F.Files.shows c.loop-first.files in
    let after = c.in-Some.after.now in
    let here = subst (λ (ls : List (List ℕ)). PiecesWritten c.args.file c.args.pieces.now ls first mid)
    c.in-Some.ensures c.loop-first.invariant in
    let mine = subst (λ (p : List ℕ). PiecesWritten c.args.file c.args.pieces.now (p ∷ after) first
    mid) (sym c.bytes.ensures.value) here in
    let err = c.in_err-write_all.ensures.err in
    on_err c.from_residual.result
    (front_written c.args.file c.args.pieces.now first c.bytes.result.now after mid
    (g.F.Files.shows c.write_all.new.files) mine err.0 err.1 err.2)

pub returns-in_err-write_all-clause-only : goal.returns-in_err-write_all-clause-only
returns-in_err-write_all-clause-only g c = writes_on c.args.file
    (g.F.Files.shows c.args.files.now) (g.F.Files.shows c.loop-first.files)
    (g.F.Files.shows c.write_all.new.files) c.loop-first.invariant.only
    c.in_err-write_all.ensures.only

pub loop-first-preserved : goal.loop-first-preserved
loop-first-preserved g c =
    let first = g.F.Files.shows c.args.files.now in
    let mid = g.F.Files.shows c.loop-first.files in
    let after = c.in-Some.after.now in
    let here = subst (λ (ls : List (List ℕ)). PiecesWritten c.args.file c.args.pieces.now ls first mid)
    c.in-Some.ensures c.loop-first.invariant in
    let mine = subst (λ (p : List ℕ). PiecesWritten c.args.file c.args.pieces.now (p ∷ after) first
    mid) (sym c.bytes.ensures.value) here in
    piece_written c.args.file c.args.pieces.now first c.bytes.result.now after mid
    (g.F.Files.shows c.write_all.new.files) mine c.in_ok-write_all.ensures.ok
    c.in_ok-write_all.ensures.out c.in_ok-write_all.ensures.only c.in_ok-write_all.ensures.failures
