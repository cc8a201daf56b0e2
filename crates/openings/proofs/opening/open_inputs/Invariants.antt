use Rattle.std.proofs.Common.{◌≡◌, ◌≤◌, length, [], None, IsTrue, vec_len, vec_capacity}
use Rattle.collector.specs.Files.{SameContents}
use Rattle.openings.specs.inner.LeftParts.{AreWhole, HoldsWhole}
use Rattle.openings.specs.Openings.{OpensFirst, input_names}
use Rattle.openings.proofs.opening.open_inputs.Given as goal

abbrev pub invariant-loop-opening : goal.invariant-loop-opening
invariant-loop-opening g l = record {
  room : length l.plan.inputs ≤ vec_capacity l.answers;
  count : vec_len l.answers ≡ l.opening-index;
  opens : OpensFirst l.plan l.answers.items [] None (g.F.Files.shows l.initial.files)
      (g.F.Files.shows l.files);
  contents : SameContents (g.F.Files.shows l.initial.files) (g.F.Files.shows l.files);
  whole : AreWhole l.answers.items (g.F.Files.shows l.initial.files) (g.F.Files.shows l.files);
  names : l.names.items ≡ input_names l.plan.inputs;
  held : IsTrue g.F.Files.contents_known
      → HoldsWhole l.plan l.answers.items (g.F.Files.shows l.initial.files)
      (g.F.Files.shows l.files);
}
