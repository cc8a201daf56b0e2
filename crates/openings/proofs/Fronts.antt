-- What is left of an input that a head alone reads.
use Rattle.std.proofs.Common.{◌≡◌, ℕ, List, ap, ◌∙◌, refl, subst, inl, inr, Some}
use Rattle.machine.specs.FrontLines.{first_lines}
use Rattle.planner.specs.Planned.{Planned}
use Rattle.openings.specs.Needs.{IsEndLeft, IsFrontLeft, IsLeftFor, IsReadByHead, TakesFirst}
use Rattle.openings.proofs.lemmas.NeedLaws.{needs_apart, same_reader, takes_once}

module _ (plan : Planned) (k : ℕ) (whole rest : List ℕ) where
  -- a tail reads nothing that a head alone reads
  no_end : (n : ℕ) → IsReadByHead plan k n → IsEndLeft plan k whole rest → ⊥
  no_end n h end =
      let r = end.only h.pipe h.reader h.reads in
      needs_apart r.0 end.needed n h.pipe h.pipe r.2
      (subst (TakesFirst n h.pipe)
      (same_reader plan k h.pipe h.pipe h.reader h.reader h.head r.0 h.reads h.reads refl h.head_at
      r.1) h.takes)

  -- a single head takes one number of lines
  one_front : (n : ℕ) → IsReadByHead plan k n → IsFrontLeft plan k whole rest
      → rest ≡ first_lines n whole
  one_front n h front =
      let r = front.read in
      let same = same_reader plan k r.pipe h.pipe r.reader h.reader r.head h.head r.reads h.reads
      (h.single r.pipe r.reader r.reads) r.head_at h.head_at in
      front.first
      ∙ ap (λ (m : ℕ). first_lines m whole)
      (takes_once h.head front.lines n r.pipe h.pipe (subst (TakesFirst front.lines r.pipe) same
      r.takes) h.takes)

  -- the first lines are left, as many as head takes
  pub exact_front : IsLeftFor plan (Some k) whole rest → (n : ℕ) → IsReadByHead plan k n
      → rest ≡ first_lines n whole
  exact_front left n h = elim left as (λ _. rest ≡ first_lines n whole) [
    | inl all ↦ absurd (all.1 n h)
    | inr part ↦ elim part as (λ _. rest ≡ first_lines n whole) [
      | inl end ↦ absurd (no_end n h end)
      | inr front ↦ one_front n h front
    ]
  ]
