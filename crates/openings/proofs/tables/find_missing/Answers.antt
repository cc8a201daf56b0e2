use Rattle.std.proofs.Common.{ℕ, ◌+◌, ◌≤◌, length, Vec, Global, vec_len, vec_capacity, sym, ap}
use Rattle.std.proofs.Common.{subst, ◌∙◌, not, arith}
use Rattle.openings.proofs.lemmas.FindLaws.{found_missing, found_there}
use Rattle.openings.proofs.tables.find_missing.Goals as goal
use Rattle.openings.proofs.tables.find_missing.Goals.{then-is_none, else-is_none}

pub loop-place-preserved : goal.loop-place-preserved
loop-place-preserved c = elim c.if-is_none.branch [
  | then-is_none w ↦ record {
    room = subst (λ (m : Vec ℕ Global). length c.args.answers.now ≤ vec_capacity m)
        (sym w.missing-is) (omega arith);
    within = subst (λ (m : Vec ℕ Global). vec_len m ≤ c.loop-place.place + 1) (sym w.missing-is)
        (omega arith);
    found = found_missing c.args.answers.now c.loop-place.place c.loop-place.missing.items _
        c.loop-place-test.true (c.is_none.ensures
        ∙ ap not w.if-is_none.true) c.loop-place.invariant.found
        (ap (λ (m : Vec ℕ Global). m.items) w.missing-is ∙ w.push_reserved.ensures.items);
  }
  | else-is_none w ↦ record {
    room = subst (λ (m : Vec ℕ Global). length c.args.answers.now ≤ vec_capacity m)
        (sym w.missing-is) (omega arith);
    within = subst (λ (m : Vec ℕ Global). vec_len m ≤ c.loop-place.place + 1) (sym w.missing-is)
        (omega arith);
    found = found_there c.args.answers.now c.loop-place.place c.loop-place.missing.items _
        c.loop-place-test.true (c.is_none.ensures
        ∙ ap not w.if-is_none.false) c.loop-place.invariant.found
        (ap (λ (m : Vec ℕ Global). m.items) w.missing-is);
  }
]
