use Rattle.std.proofs.Common.{◌≡◌, ℕ, ◌+◌, ◌≤◌, ◌<◌, List, min, Option, Some, None, sym, ap, ◌∙◌}
use Rattle.std.proofs.Common.{⊎_elim, arith}
use Rattle.std.proofs.lemmas.Bool.{cases_lt}
use Rattle.graphs.specs.inner.Circles.{walk}
use Rattle.graphs.proofs.lemmas.WalkLaws.{step_at, ended_by}
use Rattle.graphs.proofs.circles.lowest_ahead.Goals as goal

pub returns-in-None-clause-lowest : goal.returns-in-None-clause-lowest
returns-in-None-clause-lowest c n k le is =
    let next = c.args.next.now in
    let from = c.args.from in
    let i = c.loop.index in
    let inv = c.loop.invariant in
    let nowhere : walk next from (i + 1) ≡ None = step_at next from i c.loop.place inv.here
    ∙ sym c.in-None.ensures in
    ⊎_elim
    (λ (h : n < i + 1). inv.lowest n k (omega arith) is)
    (λ (h : i + 1 ≤ n). let none = ended_by next from (i + 1) n nowhere h in
    absurd (cc (sym none ∙ is)))
    (cases_lt n (i + 1))

-- if the walk leads to both, it leads to the lower
lower : (next : List (Option ℕ)) (from a b m : ℕ) → m ≡ min a b
    → (n : ℕ) × (walk next from n ≡ Some a) → (n : ℕ) × (walk next from n ≡ Some b)
    → (n : ℕ) × (walk next from n ≡ Some m)
lower next from a b m is at to = ⊎_elim
    (λ (h : a < b). (at.0, at.1 ∙ ap Some (let s : a ≡ m = omega (arith, is) in s)))
    (λ (h : b ≤ a). (to.0, to.1 ∙ ap Some (let s : b ≡ m = omega (arith, is) in s)))
    (cases_lt a b)

pub loop-preserved : goal.loop-preserved
loop-preserved c =
    let next = c.args.next.now in
    let from = c.args.from in
    let i = c.loop.index in
    let inv = c.loop.invariant in
    let then = c.in-Some.then in
    let here : walk next from (i + 1) ≡ Some then = step_at next from i c.loop.place inv.here
    ∙ sym c.in-Some.ensures in
    record {
      here = here;
      reached = lower next from c.loop.low then c.min-low.result c.min-low.ensures inv.reached
          (i + 1, here);
      lowest = λ n k le is.
          ⊎_elim
          (λ (h : n < i + 1). let l = inv.lowest n k (omega arith) is in
          omega (arith, l, c.min-low.ensures))
          (λ (h : i + 1 ≤ n).
          let at : walk next from n ≡ Some then =
          ap (λ t. walk next from t) (let s : n ≡ i + 1 = omega arith in s) ∙ here in
          let same : then ≡ k = cc (sym at ∙ is) in
          omega (arith, same, c.min-low.ensures))
          (cases_lt n (i + 1));
    }
