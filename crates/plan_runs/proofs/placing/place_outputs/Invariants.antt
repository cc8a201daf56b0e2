use Rattle.std.proofs.Common.{◌≡◌}
use Rattle.plan_runs.specs.inner.Places.{PlacesOutputs}
use Rattle.plan_runs.proofs.placing.place_outputs.Given as goal

abbrev pub invariant-loop-place : goal.invariant-loop-place
invariant-loop-place g l = record {
  places : PlacesOutputs l.outputs l.place (g.F.Files.shows l.initial.files)
      (g.F.Files.shows l.files);
  failures : (g.F.Files.shows l.files).failures ≡ (g.F.Files.shows l.initial.files).failures;
}
