use Rattle.std.proofs.Common.{Vec, Global, ◌≡◌, ◌∙◌, [], ℕ, ap, arith}
use Rattle.machine.specs.Lines.{content}
use Rattle.pair_filters.proofs.lemmas.KeyLaws.{no_key}
use Rattle.pair_filters.proofs.begun.Begun.put_last_long.Goals as goal

pub invariant_of-self : goal.invariant_of-self
invariant_of-self c =
    let first = c.swap.new.x.items in
    let none : first ≡ [] = ap (λ (v : Vec ℕ Global). v.items) c.swap.ensures.x_after
    ∙ c.new-first.ensures.items in
    record {
      ended = λ h. absurd (omega (arith, h));
      right =
          no_key c.args.self.now.rules (content first) (ap content none);
    }
