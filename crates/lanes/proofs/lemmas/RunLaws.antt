-- Runs that the mask of a chunk shows.
use Rattle.std.proofs.Common.{◌≡◌, ◌≢◌, ℕ, Bool, true, false, not, cond, eqb, leb, ltb, List}
use Rattle.std.proofs.Common.{length, map, ap, ◌∙◌, sym, arith}
use Rattle.std.specs.List.{prefix_len}
use Rattle.std.specs.Simd.Lanes.{mask_l}
use Rattle.std.proofs.lemmas.Bool.{eq-eqb, ne_eqb}
use Rattle.std.proofs.lemmas.Bool.Decides.{nat_tests}
use Rattle.std.proofs.lemmas.Simd.{first_set_mask_l}
use Rattle.machine.proofs.MakesLaws.{fun_ext}
use lib.Count.{count_trailing_zeros}

not_at_most : (byte x : ℕ) → not (leb x byte) ≡ ltb byte x
not_at_most byte x = grind (arith, nat_tests)

run_by : (byte m : ℕ) (xs : List ℕ) (b : Bool) → length xs ≡ 64
    → m ≡ mask_l (map (λ x. leb x byte) xs) → eqb m 0 ≡ b
    → cond b 64 (count_trailing_zeros 64 m) ≡ prefix_len (λ x. ltb byte x) xs
run_by byte m xs b long is e =
    ap (λ (c : Bool). cond c 64 (count_trailing_zeros 64 m)) (sym e)
    ∙ (ap (λ (n : ℕ). cond (eqb n 0) 64 (count_trailing_zeros 64 n)) is
    ∙ (first_set_mask_l (λ x. leb x byte) xs 64 long (omega arith)
    ∙ ap (λ (p : ℕ → Bool). prefix_len p xs) (fun_ext (not_at_most byte))))

-- no bit is set
pub whole_run : (byte m : ℕ) (xs : List ℕ) → length xs ≡ 64 → m ≡ mask_l (map (λ x. leb x byte) xs)
    → m ≡ 0 → 64 ≡ prefix_len (λ x. ltb byte x) xs
whole_run byte m xs long is none = run_by byte m xs true long is (eq-eqb m 0 none)

-- one is
pub short_run : (byte m : ℕ) (xs : List ℕ) → length xs ≡ 64 → m ≡ mask_l (map (λ x. leb x byte) xs)
    → m ≢ 0 → count_trailing_zeros 64 m ≡ prefix_len (λ x. ltb byte x) xs
short_run byte m xs long is some = run_by byte m xs false long is (ne_eqb m 0 some)
