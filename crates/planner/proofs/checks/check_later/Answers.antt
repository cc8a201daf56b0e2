use Rattle.std.proofs.Common.{◌+◌, ◌||◌, nat_lt, Bool, List, length, count_by, ◌∷◌, ◌++◌, [], inl}
use Rattle.std.proofs.Common.{inr, refl, ap₂, ◌∙◌}
use Rattle.std.specs.List.{list_any}
use Rattle.std.proofs.lemmas.Result.{err_from_is_err_and}
use Rattle.commands.specs.Operands.{operand_count}
use Rattle.planner.specs.declared.fault.PlanFault.TheVariants as fault
use Rattle.planner.specs.declared.place.End.{End}
use Rattle.planner.specs.Ends.{leaves}
use Rattle.planner.specs.Places.{Stage}
use Rattle.planner.specs.Faults.{file_faults, end_faults, operands_max, pipes_max, stages_max}
use Rattle.planner.proofs.lemmas.FaultLaws.{holds, fails, too_many}
use Rattle.planner.proofs.lemmas.RankLaws.{meets_front, meets_behind}
use Rattle.planner.proofs.checks.check_later.Goals as goal

pub returns-in_err-check_files : goal.returns-in_err-check_files
returns-in_err-check_files c =
    let r = err_from_is_err_and c.from_residual.result c.from_residual.ensures.1 in
    let fifos = c.args.fifos.now in
    let ss = c.args.stages.now in
    let f = c.in_err-check_files.field-0.0 in
    rw (r.1, r.2) (meets_front fifos ss (Unit {0}) (Unit {0}) file_faults
    (end_faults ++ fault.TooMany ∷ []) f
    (c.in_err-check_files.ensures fifos ss c.requires.uses))

pub returns-in_err-check_ends : goal.returns-in_err-check_ends
returns-in_err-check_ends c =
    let r = err_from_is_err_and c.from_residual-in_err-check_ends.result
    c.from_residual-in_err-check_ends.ensures.1 in
    let fifos = c.args.fifos.now in
    let ss = c.args.stages.now in
    let f = c.in_err-check_ends.field-0.0 in
    rw (r.1, r.2) (meets_behind fifos ss (Unit {0}) (Unit {0}) file_faults
    (end_faults ++ fault.TooMany ∷ []) f (c.in_ok-check_files.ensures fifos ss c.requires.uses)
    (meets_front fifos ss (Unit {0}) (Unit {0}) end_faults
    (fault.TooMany ∷ []) f c.in_err-check_ends.ensures))

pub returns-then-are_too_many : goal.returns-then-are_too_many
returns-then-are_too_many c =
    let fifos = c.args.fifos.now in
    let ss = c.args.stages.now in
    let a = c.in_ok-check_files.ensures fifos ss c.requires.uses in
    let b = c.in_ok-check_ends.ensures in
    let test : List End → List End
    → Bool = λ ins outs. nat_lt stages_max
    (length ss) || (nat_lt pipes_max (length ins + count_by leaves outs) || list_any
    (λ (s : Stage). nat_lt operands_max (operand_count s.filter)) ss) in
    let same = c.are_too_many.ensures ∙ ap₂ test c.requires.ins c.requires.outs in
    inr (
      a.0,
      inr (
        a.1.0,
        inr (
          b.0,
          inr (
            b.1.0,
            inl (
              refl,
              holds c.are_too_many.result
                  (too_many fifos ss) same c.if-are_too_many.true,
            ),
          ),
        ),
      ),
    )

pub returns : goal.returns
returns c =
    let fifos = c.args.fifos.now in
    let ss = c.args.stages.now in
    let a = c.in_ok-check_files.ensures fifos ss c.requires.uses in
    let b = c.in_ok-check_ends.ensures in
    let test : List End → List End
    → Bool = λ ins outs. nat_lt stages_max
    (length ss) || (nat_lt pipes_max (length ins + count_by leaves outs) || list_any
    (λ (s : Stage). nat_lt operands_max (operand_count s.filter)) ss) in
    let same = c.are_too_many.ensures ∙ ap₂ test c.requires.ins c.requires.outs in (
      a.0,
      (
        a.1.0,
        (
          b.0,
          (
            b.1.0,
            (
              fails c.are_too_many.result (too_many fifos ss) same c.if-are_too_many.false,
              tt,
            ),
          ),
        ),
      ),
    )
