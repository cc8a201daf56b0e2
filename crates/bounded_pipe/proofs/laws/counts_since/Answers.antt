use Rattle.std.proofs.Common.{ap, arith}
use Rattle.bounded_pipe.specs.Sizes.{size_of}
use Rattle.bounded_pipe.specs.Names.{PipeName}
use Rattle.bounded_pipe.proofs.Records.{sees_sizes, beside_counted}
use Rattle.bounded_pipe.proofs.laws.counts_since.Goals as goal

pub returns-clause-writing : goal.returns-clause-writing
returns-clause-writing c = λ w w' r b on.
    let counted = on.counted (beside_counted w r b) in
    let sizes = sees_sizes w r b.sees in
    let here = ap (λ (n : PipeName). size_of n.before) on.pipe in
    let there = ap (λ (n : PipeName). size_of n.before) (let s = b.sees in s.ends) in
    (counted.within, omega (arith, counted.covers, sizes, here, there, b.count, b.heard, b.told))
