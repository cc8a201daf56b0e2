use Rattle.std.proofs.Common.{◌≡◌, ◌≢◌, ℕ, List, [], ◌∷◌, get_or, ap, sym, ◌∙◌, arith}
use Rattle.std.specs.Prelude.{All}
use Rattle.std.proofs.lemmas.List.Elements.{All-cons}
use Rattle.folders.specs.inner.Outputs.{AreApart}
use Rattle.folders.specs.declared.output.Output.{Output}
use Rattle.folder_tests.proofs.tests.placed.Goals as goal

none : (P : Output → Type 0) → All P []
none P = λ k d within. absurd (omega (arith, within))

one : (P : Output → Type 0) (o : Output) → P o → All P (o ∷ [])
one P o holds = All-cons P o [] holds (none P)

-- four names
are_apart : (o p : Output) → (o.new ≡ 46 ∷ 97 ∷ []) × (o.place ≡ 97 ∷ []) → (p.new ≡ 46 ∷ 98 ∷ []) × (p.place ≡ 98 ∷ []) → AreApart (o ∷ p ∷ [])
are_apart o p a b = (
  (λ e. absurd (cc (sym a.0 ∙ e ∙ a.1))),
  (one (λ q. o.new ≢ q.new) p (λ e. absurd (omega (arith, ap (λ (l : List ℕ). get_or l 1 0) (sym a.0 ∙ e ∙ b.0)))), one (λ q. o.new ≢ q.place) p (λ e. absurd (cc (sym a.0 ∙ e ∙ b.1)))),
  (one (λ q. o.place ≢ q.new) p (λ e. absurd (cc (sym a.1 ∙ e ∙ b.0))), one (λ q. o.place ≢ q.place) p (λ e. absurd (omega (arith, ap (λ (l : List ℕ). get_or l 0 0) (sym a.1 ∙ e ∙ b.1))))),
  (
    (λ e. absurd (cc (sym b.0 ∙ e ∙ b.1))),
    (none (λ q. p.new ≢ q.new), none (λ q. p.new ≢ q.place)),
    (none (λ q. p.place ≢ q.new), none (λ q. p.place ≢ q.place)),
    tt,
  ),
)

pub place_or_leave-requires : goal.place_or_leave-requires
place_or_leave-requires c = record { apart = are_apart c.in_ok-output.field-0 c.in_ok-output-2.field-0 c.in_ok-output.ensures c.in_ok-output-2.ensures }

pub place_stored-requires : goal.place_stored-requires
place_stored-requires c = record { apart = are_apart c.in_ok-output.field-0 c.in_ok-output-2.field-0 c.in_ok-output.ensures c.in_ok-output-2.ensures }

pub rename_or_leave-requires : goal.rename_or_leave-requires
rename_or_leave-requires c = record { apart = are_apart c.in_ok-output.field-0 c.in_ok-output-2.field-0 c.in_ok-output.ensures c.in_ok-output-2.ensures }
