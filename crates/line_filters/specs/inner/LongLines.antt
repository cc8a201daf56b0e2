-- Long lines, which are put out by themselves.
use Rattle.std.specs.Prelude.{◌≡◌, ℕ, List, ◌++◌, drop}
use Rattle.machine.specs.Pieces.{Queued, contents}

-- What was put out of the first `count` bytes leaves `left'` to be made of the others, if `left`
-- was to be made of all of them: whatever follows.
pub record PutsFront (left left' : List ℕ → List ℕ) (bytes : List ℕ) (count : ℕ)
    (out out' : Queued) :
    Type 0 where
  pub made : List ℕ
  pub added : contents out' ≡ contents out ++ made
  pub splits : (zs : List ℕ) → left (bytes ++ zs) ≡ made ++ left' (drop count bytes ++ zs)
