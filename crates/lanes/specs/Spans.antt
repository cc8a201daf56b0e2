-- Sets of bytes, as spans: the bytes from one to another, with 0 next after 255.
use Rattle.std.specs.Prelude.{◌≡◌, ℕ, ◌+◌, ◌%◌, ◌&&◌, Bool, false, List, [], ◌∷◌, nat_le}
use Rattle.std.specs.List.{list_any}
use Rattle.lanes.specs.declared.span.Span.{Span}

-- whether a byte is in a span
abbrev pub in_span : Span → ℕ → Bool
in_span span x = nat_le ((x + span.by) % 256) span.width

-- whether a byte is in at least one of the spans
abbrev pub in_spans : List Span → ℕ → Bool
in_spans spans x = list_any (λ span. in_span span x) spans

-- no two adjacent bytes pass the test; `before` tells whether the byte before them passes it
abbrev pub HasNoPair : (ℕ → Bool) → Bool → List ℕ → Type 0
HasNoPair p before [] = Unit {0}
HasNoPair p before (x ∷ xs) = ((before && p x) ≡ false) × HasNoPair p (p x) xs
