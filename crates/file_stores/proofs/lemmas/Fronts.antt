-- The first lines of bytes that nothing follows.
use Rattle.std.proofs.Common.{◌≡◌, ℕ, List, [], ◌++◌, take, ap, sym, ◌∙◌, append-nil}
use Rattle.machine.specs.FrontLines.{first_lines, FrontLines}
use Rattle.machine.proofs.FrontLaws.{head_nil}

-- they go up to the end that was found
pub front_whole : (bytes : List ℕ) (n end left : ℕ) → FrontLines bytes n end left
    → take end bytes ≡ first_lines n bytes
front_whole bytes n end left f =
    sym (ap (first_lines n) (sym (append-nil bytes))
    ∙ (f.splits []
    ∙ (ap (λ (x : List ℕ). take end bytes ++ x) (head_nil left) ∙ append-nil (take end bytes))))
