use Rattle.std.proofs.Common.{◌≡◌, ◌++◌, List, ℕ, subst, sym, arith}
use Rattle.std.specs.Prelude.{OnOk}
use Rattle.std.proofs.lemmas.Fmt.{decimal_digit}
use Rattle.pair_filters.proofs.runs.put_number.Goals as goal

pub returns-then-number-lt10 : goal.returns-then-number-lt10
returns-then-number-lt10 c =
    subst (λ (x : List ℕ). OnOk c.put_byte.result (c.put_byte.new.self ≡ c.args.made.now ++ x))
    (sym (decimal_digit c.args.number (omega (arith, c.if-number-lt10.true))))
    c.put_byte.ensures
