-- The faults of names, by how often each name is used.
use Rattle.std.proofs.Common.{◌≡◌, ℕ, ◌<◌, ◌↔◌, ◌&&◌, Bool, true, false, nat_lt, nat_eq, List}
use Rattle.std.proofs.Common.{length, count_by, ◌+◌, ◌||◌, ◌⊎◌, inl, inr, ⊎_elim, subst, refl, sym}
use Rattle.std.proofs.Common.{ap, ◌∙◌}
use Rattle.std.specs.List.{list_any}
use Rattle.std.proofs.lemmas.Bool.{false≢true, ltb-true, lt-ltb, eqb-true, eq-eqb}
use Rattle.std.proofs.lemmas.List.Folds.{list_any_at, Any-from_list_any}
use Rattle.std.proofs.lemmas.List.Sums.{length-filter}
use Rattle.graphs.specs.declared.uses.Uses.{Uses}
use Rattle.graphs.specs.Uses.{times, AreUses}
use Rattle.graphs.proofs.UseLaws.{some_use_passes}
use Rattle.planner.specs.Places.{Stage}
use Rattle.commands.specs.Operands.{operand_count}
use Rattle.planner.specs.Ends.{in_ends, out_ends, leaves, leaving}
use Rattle.planner.specs.Faults.{AreTooMany, HasManyOperands, all_read, all_written, IsMadeTwice}
use Rattle.planner.specs.Faults.{HasManyWriters, HasManyReaders, HasNoReader, HasNoWriter}
use Rattle.planner.specs.Faults.{IsWrittenTwice, IsReadAndWritten, operands_max, pipes_max}
use Rattle.planner.specs.Faults.{stages_max}

-- both tests
both : (a b : Bool) → (a && b) ≡ true → (a ≡ true) × (b ≡ true)
both true b e = (refl, e)
both false b e = absurd (cc e)

two : (a b : Bool) → a ≡ true → b ≡ true → (a && b) ≡ true
two a b e f = ap (λ x. x && b) e ∙ f

-- what a test says of a fault
pub holds : {P : Type 0} {tested : Bool} (b : Bool) → (tested ≡ true) ↔ P → b ≡ tested → b ≡ true
    → P
holds b w e t = w.0 (sym e ∙ t)

pub fails : {P : Type 0} {tested : Bool} (b : Bool) → (tested ≡ true) ↔ P → b ≡ tested → b ≡ false
    → P → ⊥
fails b w e f p = false≢true (sym f ∙ (e ∙ w.1 p))

module _ (fifos : List (List ℕ)) (stages : List Stage) (uses : List Uses)
    (are : AreUses fifos (all_read stages) (all_written stages) uses) where
  pub made_twice : (list_any (λ (u : Uses). nat_lt 1 u.made) uses ≡ true) ↔ IsMadeTwice fifos
  made_twice =
      let w = some_use_passes (λ u. nat_lt 1 u.made) fifos (all_read stages)
      (all_written stages) uses are refl in (
        λ h. let (name, e) = w.0 h in (name, ltb-true 1 (times name fifos) e),
        λ (name, l). w.1 (name, lt-ltb 1 (times name fifos) l),
      )

  pub many_writers : (list_any (λ (u : Uses). nat_lt 0 u.made && nat_lt 1 u.written) uses ≡ true)
      ↔ HasManyWriters fifos stages
  many_writers =
      let w = some_use_passes (λ u. nat_lt 0 u.made && nat_lt 1 u.written) fifos (all_read stages)
      (all_written stages) uses are refl in
      let made : List ℕ → ℕ = λ name. times name fifos in
      let written : List ℕ → ℕ = λ name. times name (all_written stages) in (
        λ h. let (name, e) = w.0 h in let (a, b) =
            both (nat_lt 0 (made name)) (nat_lt 1 (written name)) e in
            (name, ltb-true 0 (made name) a, ltb-true 1 (written name) b),
        λ (name, a, b). w.1 (
          name,
          two (nat_lt 0 (made name)) (nat_lt 1 (written name))
              (lt-ltb 0 (made name) a) (lt-ltb 1 (written name) b),
        ),
      )

  pub many_readers : (list_any (λ (u : Uses). nat_lt 0 u.made && nat_lt 1 u.read) uses ≡ true)
      ↔ HasManyReaders fifos stages
  many_readers =
      let w = some_use_passes (λ u. nat_lt 0 u.made && nat_lt 1 u.read) fifos (all_read stages)
      (all_written stages) uses are refl in
      let made : List ℕ → ℕ = λ name. times name fifos in
      let read : List ℕ → ℕ = λ name. times name (all_read stages) in (
        λ h. let (name, e) = w.0 h in let (a, b) =
            both (nat_lt 0 (made name)) (nat_lt 1 (read name)) e in
            (name, ltb-true 0 (made name) a, ltb-true 1 (read name) b),
        λ (name, a, b). w.1 (
          name,
          two (nat_lt 0 (made name)) (nat_lt 1 (read name))
              (lt-ltb 0 (made name) a) (lt-ltb 1 (read name) b),
        ),
      )

  pub no_reader : (list_any (λ (u : Uses). nat_lt 0 u.made && nat_eq u.read 0) uses ≡ true)
      ↔ HasNoReader fifos stages
  no_reader =
      let w = some_use_passes (λ u. nat_lt 0 u.made && nat_eq u.read 0) fifos (all_read stages)
      (all_written stages) uses are refl in
      let made : List ℕ → ℕ = λ name. times name fifos in
      let read : List ℕ → ℕ = λ name. times name (all_read stages) in (
        λ h. let (name, e) = w.0 h in let (a, b) =
            both (nat_lt 0 (made name)) (nat_eq (read name) 0) e in
            (name, ltb-true 0 (made name) a, eqb-true (read name) 0 b),
        λ (name, a, b). w.1 (
          name,
          two (nat_lt 0 (made name)) (nat_eq (read name) 0)
              (lt-ltb 0 (made name) a) (eq-eqb (read name) 0 b),
        ),
      )

  pub no_writer : (list_any (λ (u : Uses). nat_lt 0 u.made && nat_eq u.written 0) uses ≡ true)
      ↔ HasNoWriter fifos stages
  no_writer =
      let w = some_use_passes (λ u. nat_lt 0 u.made && nat_eq u.written 0) fifos (all_read stages)
      (all_written stages) uses are refl in
      let made : List ℕ → ℕ = λ name. times name fifos in
      let written : List ℕ → ℕ = λ name. times name (all_written stages) in (
        λ h. let (name, e) = w.0 h in let (a, b) =
            both (nat_lt 0 (made name)) (nat_eq (written name) 0) e in
            (name, ltb-true 0 (made name) a, eqb-true (written name) 0 b),
        λ (name, a, b). w.1 (
          name,
          two (nat_lt 0 (made name)) (nat_eq (written name) 0)
              (lt-ltb 0 (made name) a) (eq-eqb (written name) 0 b),
        ),
      )

  pub written_twice : (list_any (λ (u : Uses). nat_eq u.made 0 && nat_lt 1 u.written) uses ≡ true)
      ↔ IsWrittenTwice fifos stages
  written_twice =
      let w = some_use_passes (λ u. nat_eq u.made 0 && nat_lt 1 u.written) fifos (all_read stages)
      (all_written stages) uses are refl in
      let made : List ℕ → ℕ = λ name. times name fifos in
      let written : List ℕ → ℕ = λ name. times name (all_written stages) in (
        λ h. let (name, e) = w.0 h in let (a, b) =
            both (nat_eq (made name) 0) (nat_lt 1 (written name)) e in
            (name, eqb-true (made name) 0 a, ltb-true 1 (written name) b),
        λ (name, a, b). w.1 (
          name,
          two (nat_eq (made name) 0) (nat_lt 1 (written name))
              (eq-eqb (made name) 0 a) (lt-ltb 1 (written name) b),
        ),
      )

  pub read_and_written :
      (list_any (λ (u : Uses). nat_eq u.made 0 && nat_lt 0 u.read && nat_lt 0 u.written) uses
      ≡ true) ↔ IsReadAndWritten fifos stages
  read_and_written =
      let w = some_use_passes (λ u. nat_eq u.made 0 && nat_lt 0 u.read && nat_lt 0 u.written) fifos
      (all_read stages) (all_written stages) uses are refl in
      let made : List ℕ → Bool = λ name. nat_eq (times name fifos) 0 in
      let read : List ℕ → Bool = λ name. nat_lt 0 (times name (all_read stages)) in
      let written : List ℕ → Bool = λ name. nat_lt 0 (times name (all_written stages)) in (
        λ h.
            let (name, e) = w.0 h in
            let (ab, c) = both (made name && read name) (written name) e in
            let (a, b) = both (made name) (read name) ab in (
              name,
              eqb-true (times name fifos) 0 a,
              ltb-true 0 (times name (all_read stages)) b,
              ltb-true 0 (times name (all_written stages)) c,
            ),
        λ (name, a, b, c). w.1 (
          name,
          two (made name && read name) (written name)
              (two (made name) (read name) (eq-eqb (times name fifos) 0 a)
              (lt-ltb 0 (times name (all_read stages)) b))
              (lt-ltb 0 (times name (all_written stages)) c),
        ),
      )

-- one of three tests
one_of : (a b c : Bool) → (a || (b || c)) ≡ true → (a ≡ true) ⊎ ((b ≡ true) ⊎ (c ≡ true))
one_of true b c e = inl refl
one_of false true c e = inr (inl refl)
one_of false false c e = inr (inr e)

first_of_three : (a b c : Bool) → a ≡ true → (a || (b || c)) ≡ true
first_of_three a b c e = ap (λ x. x || (b || c)) e

second_of_three : (a b c : Bool) → b ≡ true → (a || (b || c)) ≡ true
second_of_three true b c e = refl
second_of_three false b c e = ap (λ x. x || c) e

third_of_three : (a b c : Bool) → c ≡ true → (a || (b || c)) ≡ true
third_of_three true b c e = refl
third_of_three false true c e = refl
third_of_three false false c e = e

-- the limits
pub too_many : (fifos : List (List ℕ)) (ss : List Stage)
    → ((nat_lt stages_max (length ss) || (nat_lt pipes_max
    (length (in_ends fifos ss) + count_by leaves (out_ends fifos ss)) || list_any
    (λ (s : Stage). nat_lt operands_max (operand_count s.filter)) ss)) ≡ true)
    ↔ AreTooMany fifos ss
too_many fifos ss =
    let n = length (in_ends fifos ss) in
    let outs = out_ends fifos ss in
    let same : count_by leaves outs ≡ length (leaving outs) = sym (length-filter leaves outs) in
    let a = nat_lt stages_max (length ss) in
    let b = nat_lt pipes_max (n + count_by leaves outs) in
    let c = list_any (λ (s : Stage). nat_lt operands_max (operand_count s.filter)) ss in (
      λ e. ⊎_elim
          (λ (h : a ≡ true). inl (ltb-true stages_max (length ss) h))
          (λ (h : (b ≡ true) ⊎ (c ≡ true)). inr (⊎_elim
          (λ (h : b ≡ true). inl (subst (λ k. pipes_max < n + k) same
          (ltb-true pipes_max (n + count_by leaves outs) h)))
          (λ (h : c ≡ true).
          let (k, s, l, is, passes) =
          Any-from_list_any (λ (s : Stage). nat_lt operands_max (operand_count s.filter)) ss
          h in
          inr (s, (k, l, is), ltb-true operands_max (operand_count s.filter) passes))
          h)) (one_of a b c e),
      λ h. ⊎_elim
          (λ (l : stages_max < length ss). first_of_three a b c (lt-ltb stages_max (length ss) l))
          (λ (h : (pipes_max < n + length (leaving outs)) ⊎ HasManyOperands ss). ⊎_elim
          (λ (l : pipes_max < n + length (leaving outs)). second_of_three a b c
          (lt-ltb pipes_max (n + count_by leaves outs)
          (subst (λ k. pipes_max < n + k) (sym same) l)))
          (λ (h : HasManyOperands ss). let (s, (k, l, is), m) = h in
          third_of_three a b c
          (list_any_at (λ (s : Stage). nat_lt operands_max (operand_count s.filter)) ss k s l
          (ap (λ (s : Stage). nat_lt operands_max (operand_count s.filter)) is
          ∙ lt-ltb operands_max (operand_count s.filter) m)))
          h) h,
    )
