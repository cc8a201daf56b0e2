-- What head still writes of inputs, by how far it is.
use Rattle.std.specs.Prelude.{◌≡◌, ℕ, List, [], ◌∷◌, ◌++◌, Bool, true, Option, Some, None}
use Rattle.std.specs.Prelude.{if◌then◌else◌}
use Rattle.machine.specs.Lines.{newline}
use Rattle.machine.specs.Pieces.{Queued, contents}
use Rattle.line_filters.specs.declared.progress.Progress.{Progress}
use Rattle.commands.specs.Head.{head_of, header}

-- the names of inputs, and what is on them
abbrev pub Named : Type 0
Named = List (List ℕ × Option (List ℕ))

-- what comes before the lines of an input, if `any` says whether a header was written
abbrev pub title : Bool → Bool → List ℕ → List ℕ
title titled any name = if titled then (if any then newline ∷ header name else header name) else []

-- what is written of inputs that have not begun
abbrev pub written_of : ℕ → Bool → Bool → Named → List ℕ
written_of n titled any [] = []
written_of n titled any ((name, None) ∷ ins) = written_of n titled any ins
written_of n titled any ((name, Some x) ∷ ins) = title titled any name
    ++ (head_of n x ++ written_of n titled true ins)

-- what is still written, if the first of these inputs is the one that is wanted
abbrev pub still_written : Progress → Named → List ℕ
still_written p [] = []
still_written p ((name, None) ∷ ins) = written_of p.count p.titled p.any ins
still_written p ((name, Some x) ∷ ins) =
    if p.begun then head_of p.left x ++ written_of p.count p.titled p.any ins
    else title p.titled p.any name ++ (head_of p.count x ++ written_of p.count p.titled true ins)

-- The input with this name has begun, and what comes before its lines was added: whatever is on it
-- and on later ones.
pub record Begins (p p' : Progress) (name : List ℕ) (out out' : Queued) : Type 0 where
  pub made : List ℕ
  pub added : contents out' ≡ contents out ++ made
  pub begun : p'.begun ≡ true
  pub splits : (x : List ℕ) (ins : Named)
      → still_written p ((name, Some x) ∷ ins) ≡ made ++ still_written p' ((name, Some x) ∷ ins)
