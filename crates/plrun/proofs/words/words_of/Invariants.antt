use Rattle.std.proofs.Common.{◌≡◌, map, take}
use Rattle.std.specs.Prelude.{IfSome}
use Rattle.plrun.proofs.words.words_of.Given as goal

abbrev pub invariant-loop-number : goal.invariant-loop-number
invariant-loop-number g l = IfSome (g.H.HandsWords.words l.from)
    (λ ws. map (λ word. word.items) l.words.items ≡ take l.number ws)
