-- What some use passes, some name passes.
use Rattle.std.proofs.Common.{◌≡◌, ℕ, ◌+◌, ◌<◌, ◌≤◌, ◌↔◌, Bool, true, false, List, sym, ap, ◌∙◌}
use Rattle.std.proofs.Common.{⊎_elim, arith}
use Rattle.std.specs.List.{list_any}
use Rattle.std.proofs.lemmas.Bool.{cases_lt, false≢true}
use Rattle.std.proofs.lemmas.List.Folds.{list_any_at, Any-from_list_any}
use Rattle.graphs.specs.declared.uses.Uses.{Uses}
use Rattle.graphs.specs.Uses.{times, uses_of, AreUses}

-- the uses of a name that is not used
abbrev pub no_uses : Uses
no_uses = record { made = 0; read = 0; written = 0 }

module _ (f : Uses → Bool) (made read written : List (List ℕ)) (uses : List Uses)
    (are : AreUses made read written uses) where
  -- a use that passes is that of a name
  pub name_from_use : list_any f uses ≡ true → (name : List ℕ)
      × (f (uses_of made read written name) ≡ true)
  name_from_use e =
      let (k, u, l, is, passes) = Any-from_list_any f uses e in
      let (name, same) = are.each k u l in
      (name, sym (ap f (sym is ∙ same)) ∙ passes)

  -- a name that passes is used, if what is not used does not pass
  pub use_from_name : f no_uses ≡ false → (name : List ℕ)
      → f (uses_of made read written name) ≡ true → list_any f uses ≡ true
  use_from_name none name e = ⊎_elim
      (λ (h : 0 < times name made + times name read + times name written).
      let u = uses_of made read written name in
      let (k, l, is) = are.all name h in
      list_any_at f uses k u l (ap f is ∙ e))
      (λ (h : times name made + times name read + times name written ≤ 0).
      let m : times name made ≡ 0 = omega arith in
      let r : times name read ≡ 0 = omega arith in
      let w : times name written ≡ 0 = omega arith in
      let u : uses_of made read written name ≡ no_uses = cc in
      absurd (false≢true (sym none ∙ (sym (ap f u) ∙ e))))
      (cases_lt 0 (times name made + times name read + times name written))

  pub some_use_passes : f no_uses ≡ false → (list_any f uses ≡ true)
      ↔ ((name : List ℕ) × (f (uses_of made read written name) ≡ true))
  some_use_passes none = (name_from_use, λ (name, e). use_from_name none name e)
