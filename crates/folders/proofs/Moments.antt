-- How a run of calls goes on.
use Rattle.std.proofs.Common.{inl, inr, ⊎_elim, ℕ, arith}
use Rattle.folders.specs.inner.Folder.{Elapses, LeavesOnly}

-- before the first call
pub started : {A : Type 0} {P : A → Type 0} {t : ℕ} {past : ℕ → A → Type 0}
    → ((a : A) → past t a → P a) → LeavesOnly P t t past past
started here = record { later = omega arith; each = here; earlier = λ t a le left. inl left }

-- one call more
pub goes_on : {A : Type 0} {P Q : A → Type 0} {old mid new : ℕ} {past since now : ℕ → A → Type 0}
    → LeavesOnly P old mid past since → Elapses Q mid new since now → ((a : A) → Q a → P a)
    → LeavesOnly P old new past now
goes_on so_far time here = record {
  later = omega (arith, so_far.later, time.later);
  each = λ a left. ⊎_elim (so_far.each a) (here a) (time.nothing_else _ a so_far.later left);
  earlier = λ t a le left. ⊎_elim (so_far.earlier t a le) (λ now. inr (here a now))
      (time.nothing_else t a (omega (arith, le, so_far.later)) left);
}

-- and a run more
pub goes_further : {A : Type 0} {P Q : A → Type 0} {old mid new : ℕ} {past since now : ℕ → A → Type 0}
    → LeavesOnly P old mid past since → LeavesOnly Q mid new since now → ((a : A) → Q a → P a)
    → LeavesOnly P old new past now
goes_further so_far more here = record {
  later = omega (arith, so_far.later, more.later);
  each = λ a left. ⊎_elim (so_far.each a) (here a) (more.earlier _ a so_far.later left);
  earlier = λ t a le left. ⊎_elim (so_far.earlier t a le) (λ now. inr (here a now))
      (more.earlier t a (omega (arith, le, so_far.later)) left);
}

-- the same with less to say
pub says_less : {A : Type 0} {P Q : A → Type 0} {old new : ℕ} {past since : ℕ → A → Type 0}
    → LeavesOnly P old new past since → ((a : A) → P a → Q a) → LeavesOnly Q old new past since
says_less so_far here = record {
  later = so_far.later;
  each = λ a left. here a (so_far.each a left);
  earlier = λ t a le left. ⊎_elim (λ was. inl was) (λ now. inr (here a now)) (so_far.earlier t a le left);
}
