use Rattle.std.proofs.Common.{◌+◌, ◌∷◌, drop, length-drop, arith}
use Rattle.byte_filters.proofs.lemmas.LaneLaws.{last_marked, none_marked}
use Rattle.byte_filters.proofs.lane.last_cut.Goals as goal

pub returns-then-blanks-eq0 : goal.returns-then-blanks-eq0
returns-then-blanks-eq0 c =
    none_marked c.run_blanks-blanks.result c.args.count c.args.found c.args.at
    (c.args.last ∷ drop (c.args.at + 1) c.args.bytes.now) c.run_blanks-blanks.ensures.low
    c.if-blanks-eq0.true

pub returns : goal.returns
returns c =
    let after = drop (c.args.at + 1) c.args.bytes.now in
    omega (
      arith,
      last_marked c.run_blanks-blanks.result c.args.count c.args.found c.args.at c.highest.result
          (c.args.last ∷ after)
          (omega (
            arith,
            c.requires.room,
            c.requires.count,
            length-drop (c.args.at + 1) c.args.bytes.now,
          )) c.run_blanks-blanks.ensures.low c.run_blanks-blanks.ensures.high
          c.highest.ensures.set c.highest.ensures.above,
    )
