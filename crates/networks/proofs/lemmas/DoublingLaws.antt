-- How often pipes can grow.
use Rattle.std.proofs.Common.{◌≡◌, ◌≢◌, ℕ, zero, suc, ◌+◌, ◌*◌, ◌<◌, ◌≤◌, cond, refl, sym, ap, ◌∙◌}
use Rattle.std.proofs.Common.{subst, ⊎_elim, arith}
use Rattle.std.specs.Prelude.{ltb}
use Rattle.std.proofs.lemmas.Bool.{cases_lt, cases_eq, lt-ltb, le-ltb}
use Rattle.networks.specs.Growth.{AreGrown, grown}

-- how often a pipe of this capacity can grow, counted up to a number
abbrev pub left : ℕ → ℕ → ℕ → ℕ
left most zero c = 0
left most (suc n) c = cond (ltb c most) (suc (left most n (2 * c))) 0

-- its capacity after this many growths
abbrev reach : ℕ → ℕ → ℕ
reach zero c = c
reach (suc n) c = reach n (2 * c)

-- a pipe of the greatest capacity cannot grow
left_past : (most n c : ℕ) → most ≤ c → left most n c ≡ 0
left_past most zero c le = refl
left_past most (suc n) c le = ap (λ b. cond b (suc (left most n (2 * c))) 0) (le-ltb c most le)

-- any other can, and has then twice its capacity
left_step : (most n c : ℕ) → c < most → left most (suc n) c ≡ suc (left most n (2 * c))
left_step most n c lt = ap (λ b. cond b (suc (left most n (2 * c))) 0) (lt-ltb c most lt)

-- to count further changes nothing once the greatest capacity is reached
left_more : (most n c : ℕ) → most ≤ reach n c → left most (suc n) c ≡ left most n c
left_more most zero c le = left_past most 1 c le
left_more most (suc n) c le = ⊎_elim
    (λ lt. left_step most (suc n) c lt
    ∙ (ap suc (left_more most n (2 * c) le) ∙ sym (left_step most n c lt)))
    (λ ge. left_past most (suc (suc n)) c ge ∙ sym (left_past most (suc n) c ge))
    (cases_lt c most)

-- it grows no more often than was counted
left_most : (most n c : ℕ) → left most n c ≤ n
left_most most zero c = omega arith
left_most most (suc n) c = ⊎_elim
    (λ (lt : c < most). let e : left most (suc n) c ≡ suc (left most n (2 * c)) =
    left_step most n c lt in
    let r : left most n (2 * c) ≤ n = left_most most n (2 * c) in
    omega (arith, e, r))
    (λ (ge : most ≤ c). let e : left most (suc n) c ≡ 0 = left_past most (suc n) c ge in
    omega (arith, e))
    (cases_lt c most)

-- after a growth one growth less is left
grown_left : (most c : ℕ) → 0 < c → c < most → most ≤ 4096
    → suc (left most 12 (grown most c)) ≤ left most 12 c
grown_left most c some less top = ⊎_elim
    (λ (lt : 2 * c < most).
    let twice : grown most c ≡ 2 * c = omega (arith, lt) in
    let e : left most 12 c ≡ suc (left most 11 (2 * c)) = left_step most 11 c less in
    let f : left most 12 (2 * c) ≡ left most 11 (2 * c) =
    left_more most 11 (2 * c) (omega (arith, some, top)) in
    let g : left most 12 (grown most c) ≡ left most 12 (2 * c) = ap (left most 12) twice in
    omega (arith, e, f, g))
    (λ (ge : most ≤ 2 * c).
    let e : left most 12 c ≡ suc (left most 11 (2 * c)) = left_step most 11 c less in
    let f : left most 12 (grown most c) ≡ 0 =
    left_past most 12 (grown most c) (omega (arith, ge)) in
    omega (arith, e, f))
    (cases_lt (2 * c) most)

-- how often the pipes below this number can grow, all together
abbrev pub left_below : ℕ → ℕ → (ℕ → ℕ) → ℕ
left_below most zero room = 0
left_below most (suc n) room = left_below most n room + left most 12 (room n)

-- each of them at most twelve times
pub left_below_most : (most n : ℕ) (room : ℕ → ℕ) → left_below most n room ≤ 12 * n
left_below_most most zero room = omega arith
left_below_most most (suc n) room =
    let rest : left_below most n room ≤ 12 * n = left_below_most most n room in
    let one : left most 12 (room n) ≤ 12 = left_most most 12 (room n) in
    omega (arith, rest, one)

-- which depends on their capacities alone
below_same : (most n : ℕ) (had has : ℕ → ℕ) → ((p : ℕ) → p < n → has p ≡ had p)
    → left_below most n has ≡ left_below most n had
below_same most zero had has same = refl
below_same most (suc n) had has same =
    let rest : left_below most n has ≡ left_below most n had =
    below_same most n had has (λ p lt. same p (omega (arith, lt))) in
    let one : left most 12 (has n) ≡ left most 12 (had n) =
    ap (left most 12) (same n (omega arith)) in
    omega (arith, rest, one)

-- one less for one of them is one less for all
below_less : (most n q : ℕ) (had has : ℕ → ℕ) → q < n
    → suc (left most 12 (has q)) ≤ left most 12 (had q)
    → ((p : ℕ) → p ≢ q → has p ≡ had p) → suc (left_below most n has) ≤ left_below most n had
below_less most zero q had has lt less others = absurd (omega (arith, lt))
below_less most (suc n) q had has lt less others = ⊎_elim
    (λ (e : q ≡ n).
    let rest : left_below most n has ≡ left_below most n had =
    below_same most n had has (λ p below. others p (λ is. absurd (omega (arith, below, is, e)))) in
    let one : suc (left most 12 (has n)) ≤ left most 12 (had n) =
    subst (λ (i : ℕ). suc (left most 12 (has i)) ≤ left most 12 (had i)) e less in
    omega (arith, rest, one))
    (λ (ne : q ≢ n).
    let rest : suc (left_below most n has) ≤ left_below most n had =
    below_less most n q had has (omega (arith, lt, ne)) less others in
    let one : left most 12 (has n) ≡ left most 12 (had n) =
    ap (left most 12) (others n (λ is. ne (sym is))) in
    omega (arith, rest, one))
    (cases_eq q n)

-- how many growths are left after these, if there are this many pipes
pub record AreCounted (most count growths : ℕ) (had has : ℕ → ℕ) : Type 0 where
  -- there are no more pipes than before
  pub none : (p : ℕ) → count ≤ p → has p ≡ 0
  -- each growth is one of those that were left
  pub fewer : growths + left_below most count has ≤ left_below most count had

pub growths_counted : (most count growths : ℕ) (had has : ℕ → ℕ) → most ≤ 4096
    → AreGrown most growths had has → ((p : ℕ) → count ≤ p → had p ≡ 0)
    → AreCounted most count growths had has
growths_counted most count zero had has top same none =
    let e : left_below most count has ≡ left_below most count had =
    below_same most count had has (λ p lt. same p) in
    record { none = λ p le. same p ∙ none p le; fewer = omega (arith, e) }
growths_counted most count (suc n) had has top grew none =
    let mid = grew.0 in
    let c = growths_counted most count n had mid top grew.1 none in
    let one = grew.2 in
    let within : one.pipe < count = ⊎_elim
    (λ (lt : one.pipe < count). lt)
    (λ (le : count ≤ one.pipe).
    let e : mid one.pipe ≡ 0 = c.none one.pipe le in absurd (omega (arith, e, one.some)))
    (cases_lt one.pipe count) in
    let less : suc (left most 12 (has one.pipe)) ≤ left most 12 (mid one.pipe) =
    subst (λ (m : ℕ). suc (left most 12 m) ≤ left most 12 (mid one.pipe)) (sym one.twice)
    (grown_left most (mid one.pipe) one.some one.less top) in
    let all : suc (left_below most count has) ≤ left_below most count mid =
    below_less most count one.pipe mid has within less one.others in
    let fewer : n + left_below most count mid ≤ left_below most count had = c.fewer in
    record {
      none = λ p le. one.others p (λ is. absurd (omega (arith, le, is, within))) ∙ c.none p le;
      fewer = omega (arith, all, fewer);
    }
