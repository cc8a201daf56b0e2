use Rattle.std.proofs.Common.{◌≡◌, ℕ, ◌+◌, ◌<◌, length, take, get_or}
use Rattle.graphs.specs.inner.Rows.{links_at}
use Rattle.graphs.specs.inner.StripSteps.{IsNext, IsOpen}
use Rattle.graphs.proofs.lemmas.Marks.{AreMarks, unmarked}
use Rattle.graphs.proofs.stripping.strip.Given as goal

abbrev pub invariant-loop-k : goal.invariant-loop-k
invariant-loop-k l = record {
  len : length l.marks.items ≡ length l.links;
  marks : AreMarks l.taken.items l.marks.items;
  count : length l.taken.items + unmarked l.marks.items ≡ length l.links;
  each : (p : ℕ) → p < length l.taken.items
      → IsNext l.most (length l.links) (links_at l.links) (take p l.taken.items)
      (get_or l.taken.items p 0);
  shut : (t : ℕ) → t < l.from → IsOpen l.most (links_at l.links) l.marks.items t → ⊥;
}

abbrev pub decreases-loop-k : goal.decreases-loop-k
decreases-loop-k l = unmarked l.marks.items
