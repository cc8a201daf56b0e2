-- What the bits of a chunk say of it as a list.
use Rattle.std.proofs.Common.{◌≡◌, ℕ, suc, ◌+◌, ◌<◌, ◌≤◌, Bool, true, false, cond, List, [], ◌∷◌}
use Rattle.std.proofs.Common.{length, get_or, take, drop, refl, ap, ◌∙◌, sym, arith}
use Rattle.std.specs.Prelude.{◌&&◌}
use Rattle.std.specs.Int.{bit_at}
use Rattle.std.specs.List.{All}
use Rattle.std.proofs.lemmas.Nat.Bits.{bit_at-zero}
use Rattle.std.proofs.lemmas.List.{length-take, length-drop, get_or-take, get_or-drop}
use Rattle.std.proofs.lemmas.List.Elements.{All-from_get_or}
use Rattle.lanes.specs.Spans.{HasNoPair}
use Rattle.lanes.proofs.lemmas.MarkLaws.{unset_is}

-- the byte at a place of a chunk
chunk_item : (bytes : List ℕ) (at k : ℕ) → k < 64
    → get_or (take 64 (drop at bytes)) k 0 ≡ get_or bytes (at + k) 0
chunk_item bytes at k small = get_or-take 64 (drop at bytes) k 0 small ∙ get_or-drop at bytes k 0

-- no bit is set
pub none_marked : (p : ℕ → Bool) (bytes : List ℕ) (at m : ℕ) → at + 64 ≤ length bytes
    → ((k : ℕ) → k < 64 → bit_at m k ≡ cond (p (get_or bytes (at + k) 0)) 1 0) → m ≡ 0
    → All (λ x. p x ≡ false) (take 64 (drop at bytes))
none_marked p bytes at m room marks none =
    All-from_get_or (λ x. p x ≡ false) (take 64 (drop at bytes)) 0 (λ k h.
    let small : k < 64 = omega (arith, h, length-take 64 (drop at bytes)) in
    ap p (chunk_item bytes at k small)
    ∙ unset_is (p (get_or bytes (at + k) 0)) (bit_at m k) (marks k small)
    (ap (λ (x : ℕ). bit_at x k) none ∙ bit_at-zero k))

not_both : (a b : Bool) → (a ≡ true → b ≡ false) → (a && b) ≡ false
not_both true b h = h refl
not_both false b h = refl

-- no two adjacent bytes pass the test, told place by place
pub no_pair : (p : ℕ → Bool) (before : Bool) (xs : List ℕ)
    → (1 ≤ length xs → (before && p (get_or xs 0 0)) ≡ false)
    → ((k : ℕ) → suc k < length xs → p (get_or xs k 0) ≡ true → p (get_or xs (suc k) 0) ≡ false)
    → HasNoPair p before xs
no_pair p before [] first later = tt
no_pair p before (x ∷ xs) first later = (
  first (omega arith),
  no_pair p (p x) xs
      (λ h. not_both (p x) (p (get_or xs 0 0)) (later 0 (omega (arith, h))))
      (λ k h. later (suc k) (omega (arith, h))),
)

pub none_first : (a b : Bool) → b ≡ false → (a && b) ≡ false
none_first true b h = h
none_first false b h = refl

pub not_before : (a b : Bool) → a ≡ false → (a && b) ≡ false
not_before a b h = ap (λ (x : Bool). x && b) h

-- no two adjacent bits are set
pub none_paired : (p : ℕ → Bool) (bytes : List ℕ) (at m : ℕ) (before : Bool)
    → at + 64 ≤ length bytes
    → ((k : ℕ) → k < 64 → bit_at m k ≡ cond (p (get_or bytes (at + k) 0)) 1 0)
    → ((k : ℕ) → bit_at m k ≡ 1 → bit_at m (1 + k) ≡ 0) → (before && p (get_or bytes at 0)) ≡ false
    → HasNoPair p before (take 64 (drop at bytes))
none_paired p bytes at m before room marks apart first =
    let chunk = take 64 (drop at bytes) in
    let long : length chunk ≡ 64 =
    omega (arith, room, length-take 64 (drop at bytes), length-drop at bytes) in
    let n : at + 0 ≡ at = omega arith in
    no_pair p before chunk (λ _. ap (λ (x : ℕ). before && p x) (chunk_item bytes at 0 (omega arith)
    ∙ ap (λ (j : ℕ). get_or bytes j 0) n) ∙ first)
    (λ k h here.
    let small : suc k < 64 = omega (arith, h, long) in
    let next : 1 + k ≡ suc k = omega arith in
    let set : bit_at m k ≡ 1 = marks k (omega arith)
    ∙ ap (λ (b : Bool). cond b 1 0) (ap p (sym (chunk_item bytes at k (omega arith))) ∙ here) in
    ap p (chunk_item bytes at (suc k) small)
    ∙ unset_is (p (get_or bytes (at + suc k) 0)) (bit_at m (suc k)) (marks (suc k) small)
    (ap (λ (j : ℕ). bit_at m j) (sym next) ∙ apart k set))
