use Rattle.std.proofs.Common.{◌≡◌, ◌≤◌, length, IsTrue, vec_len, vec_capacity}
use Rattle.collector.specs.Files.{SameHeld}
use Rattle.openings.specs.Destinations.{OpensDestinations}
use Rattle.openings.specs.Openings.{OpensBehind, output_names}
use Rattle.openings.proofs.opening.open_outputs.Given as goal

abbrev pub invariant-loop-opening : goal.invariant-loop-opening
invariant-loop-opening g l = record {
  room : length l.plan.outputs ≤ vec_capacity l.answers;
  count : vec_len l.answers ≡ l.opening-index;
  opens : OpensBehind l.plan l.answers.items (g.F.Files.shows l.initial.files)
      (g.F.Files.shows l.files);
  holds : IsTrue g.F.Files.contents_known
      → OpensDestinations l.plan.outputs l.answers.items (g.F.Files.shows l.initial.files)
      (g.F.Files.shows l.files);
  held : SameHeld (g.F.Files.shows l.initial.files) (g.F.Files.shows l.files);
  names : l.names.items ≡ output_names l.plan.outputs;
}
