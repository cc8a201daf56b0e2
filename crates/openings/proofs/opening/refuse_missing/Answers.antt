use Rattle.std.proofs.Common.{List, arith, subst}
use Rattle.std.specs.Prelude.{◌≡◌, slice_index_or}
use Rattle.run_types.specs.declared.names.InName.{InName}
use Rattle.openings.proofs.lemmas.FindLaws.{named_at}
use Rattle.openings.proofs.opening.refuse_missing.Goals as goal

pub returns-in-Some-clause-err : goal.returns-in-Some-clause-err
returns-in-Some-clause-err c =
    let first = c.in-Some.ensures in
    let value = subst (λ (l : List InName). c.swap_remove.result
    ≡ slice_index_or l c.in-Some.place c.swap_remove.result) c.requires.names
    c.swap_remove.ensures.value in (
      c.if-not-strict.false,
      (
        c.in-Some.place,
        first.1,
        named_at c.args.plan.now.inputs c.in-Some.place c.swap_remove.result
            (omega (arith, first.0, c.requires.count)) value,
      ),
    )
