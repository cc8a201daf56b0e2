use Rattle.std.proofs.Common.{◌≡◌, ℕ, suc, ◌+◌, ◌<◌, length, take, drop, set, ap, subst, arith}
use Rattle.std.specs.List.{AllZip}
use Rattle.bounded_pipe.specs.Events.{HangsUp}
use Rattle.stages.proofs.Lists.{zip_one_more}
use Rattle.stages.proofs.inlet.hang_up_each.Goals as goal

pub loop-end-preserved : goal.loop-end-preserved
loop-end-preserved c =
    let e = c.deref_mut-end-items.ensures.value in
    let n = c.loop-end.end-index in
    let xs = c.args.ends.now.items in
    let zs = c.loop-end.end-items in
    let s = c.hang_up.new.self in
    let l : n < length xs = omega (arith, ap length e, c.loop-end-test.true) in
    let more = zip_one_more HangsUp xs zs n c.end-item.result s l c.loop-end.invariant.done
    c.loop-end.invariant.rest c.hang_up.ensures.hung_up in
    let next : suc n ≡ n + 1 = omega arith in
    record {
      done = subst (λ (m : ℕ). AllZip HangsUp (take m xs) (take m (set zs n s))) next more.0;
      rest = subst (λ (m : ℕ). drop m (set zs n s) ≡ drop m xs) next more.1;
    }
