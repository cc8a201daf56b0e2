-- What two ends that have just met say of a wait.
use Rattle.std.proofs.Common.{◌≡◌, ℕ, ◌<◌, ◌⊎◌, Bool, true, false, IsTrue, [], ◌++◌, refl, sym, ap}
use Rattle.std.proofs.Common.{◌∙◌, append-nil, arith}
use Rattle.bounded_pipe.specs.Ends.{Writing, Reading, Beside}
use Rattle.bounded_pipe.specs.Pipes.{is_closed, IsFull, IsBare}
use Rattle.bounded_pipe.proofs.Records.{sees_full}
use Rattle.collector.specs.Nodes.{KnowsNoPlace}

-- a hang-up would be noted, or be seen as a mark
not_hung_up : (noted hung_up : Bool) (pending : ℕ) → (IsTrue hung_up → IsTrue noted ⊎ (0 < pending))
    → noted ≡ false → pending ≡ 0 → hung_up ≡ false
not_hung_up noted false pending seen n p = refl
not_hung_up noted true pending seen n p = grind (arith, seen, n, p)

pub refusing_is_full : (size : ℕ) (w : Writing) (r : Reading) → Beside w r → KnowsNoPlace size w
    → IsFull size w r
refusing_is_full size w r b x = record {
  full = sees_full size w r b.sees x.full;
  reader = not_hung_up w.noted r.hung_up w.pending (let s = b.sees in s.seen) x.reader x.unmarked;
}

pub unknown_is_bare : (w : Writing) (r : Reading) → Beside w r → r.known ≡ [] → is_closed w ≡ false
    → IsBare w r
unknown_is_bare w r b none unclosed = record {
  bare = sym ((let s = b.sees in s.between) ∙ (ap (λ l. r.taken ++ l) none ∙ append-nil r.taken));
  unclosed = unclosed;
}
