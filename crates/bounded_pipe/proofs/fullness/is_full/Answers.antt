use Rattle.std.proofs.Common.{◌≡◌, false, inr, ⊎_elim, arith}
use Rattle.bounded_pipe.proofs.Records.{full_of_test, test_of_full}
use Rattle.bounded_pipe.proofs.fullness.is_full.Goals as goal

pub returns-else-holds_capacity : goal.returns-else-holds_capacity
returns-else-holds_capacity c =
    let w = c.args.writer.now in
    let r = c.args.reader.now in
    let there : r.hung_up ≡ false =
    grind (
      arith,
      c.has_hung_up.ensures,
      c.if-not-has_hung_up.true,
      c.if-not-has_hung_up.ensures,
    ) in (
      λ lacks. record {
        full = full_of_test c.args.size w r c.requires
            (inr (c.lacks_bytes.ensures.0 lacks));
        reader = there;
      },
      λ full. ⊎_elim
          (λ most. grind (arith, c.holds_capacity.ensures, c.if-holds_capacity.false, most))
          (λ much. c.lacks_bytes.ensures.1 much)
          (test_of_full c.args.size w r c.requires full.full),
    )
