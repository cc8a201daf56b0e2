use Rattle.std.proofs.Common.{List, subst, sym}
use Rattle.commands.specs.Runs.{Run, AreRunsOf}
use Rattle.pair_filters.proofs.lemmas.RunLaws.{runs_are_one, runs_are_runs}
use Rattle.pair_filters.proofs.run_laws.lines_have_one_list_of_runs.Goals as goal

pub returns : goal.returns
returns c =
    λ key ls rs. (
      runs_are_one key ls rs,
      λ e. subst (λ (x : List Run). AreRunsOf key ls x) (sym e)
          (runs_are_runs key ls),
    )
