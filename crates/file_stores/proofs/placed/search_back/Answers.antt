use Rattle.std.proofs.Common.{◌≡◌, ◌-◌, length, drop, arith, length-take, length-append}
use Rattle.std.proofs.Common.{length-drop}
use Rattle.file_stores.proofs.lemmas.PlacedLaws.{found_in_file, none_in_file, none_in_all}
use Rattle.file_stores.proofs.lemmas.PlacedLaws.{filled_with}
use Rattle.file_stores.proofs.placed.search_back.Goals as goal

pub returns-in-Found : goal.returns-in-Found
returns-in-Found g c =
    let file = g.F.AnyPlace.placed c.args.file.now in
    let is = filled_with file c.fill.result c.fill.new.into
    (c.loop-at.at - c.min-count.result) c.if-not-fill.false c.fill.ensures in
    let size : length c.fill.new.into ≡ c.min-count.result =
    omega (
      arith,
      c.fill.auto.into,
      length-take c.min-count.result c.loop-at.block,
      c.loop-at.invariant.room,
      c.min-count.ensures,
    ) in
    found_in_file c.fill.new.into c.args.passed c.loop-at.left c.args.first c.args.end c.loop-at.at
    c.min-count.result (omega arith) c.loop-at.invariant.within
    (omega (arith, c.min-count.ensures, c.requires.room))
    (omega (arith, c.min-count.ensures)) size file c.in-Found.place c.loop-at.invariant.passed
    is c.in-Found.ensures

pub loop-at-preserved : goal.loop-at-preserved
loop-at-preserved g c =
    let file = g.F.AnyPlace.placed c.args.file.now in
    let is = filled_with file c.fill.result c.fill.new.into
    (c.loop-at.at - c.min-count.result) c.if-not-fill.false c.fill.ensures in
    let size : length c.fill.new.into ≡ c.min-count.result =
    omega (
      arith,
      c.fill.auto.into,
      length-take c.min-count.result c.loop-at.block,
      c.loop-at.invariant.room,
      c.min-count.ensures,
    ) in
    record {
      within = omega (arith, c.loop-at.invariant.within);
      after = omega (arith, c.min-count.ensures);
      room = omega (
        arith,
        size,
        length-append c.fill.new.into
            (drop c.min-count.result c.loop-at.block),
        length-drop c.min-count.result c.loop-at.block,
        c.loop-at.invariant.room,
        c.min-count.ensures,
      );
      passed =
          none_in_file c.fill.new.into c.args.passed c.loop-at.left c.args.first c.args.end
          c.loop-at.at c.min-count.result (omega arith) c.loop-at.invariant.within
          (omega (arith, c.min-count.ensures, c.requires.room))
          (omega (arith, c.min-count.ensures)) size file c.in-Before.more
          c.loop-at.invariant.passed is c.in-Before.ensures;
    }

pub returns : goal.returns
returns g c = none_in_all (g.F.AnyPlace.placed c.args.file.now) c.args.passed c.loop-at.left
    c.args.first c.args.end c.loop-at.at (omega arith) c.loop-at.invariant.passed
