-- Places in bytes, and the content of a line.
use Rattle.std.proofs.Common.{◌≡◌, ℕ, ◌+◌, ◌-◌, ◌<◌, ◌≤◌, Bool, true, false, cond, eqb, List, []}
use Rattle.std.proofs.Common.{◌∷◌, ◌++◌, length, get_or, take, drop, refl, ap, ◌∙◌, sym, subst}
use Rattle.std.proofs.Common.{arith, append_assoc, length-append}
use Rattle.std.specs.List.{All}
use Rattle.std.proofs.lemmas.Bool.{eqb-true, false_from_ne_true}
use Rattle.std.proofs.lemmas.List.{take-append-drop, drop-drop, length-take, length-drop}
use Rattle.std.proofs.lemmas.List.{get_or-take, take_at, take_rest, drop_more, take_all, take_more}
use Rattle.std.proofs.lemmas.List.Elements.{All-from_get_or}
use Rattle.memchr.specs.Find.{NoneBefore, Passes, is_byte}
use Rattle.machine.specs.Lines.{lines, led, content, newline}
use Rattle.machine.specs.inner.Places.{FirstFrom}
use Rattle.machine.proofs.LinesLaws.{lines-whole, led-cons}

-- the first such byte from `at` on
pub first_from : (bytes : List ℕ) (byte at k : ℕ) → at ≤ length bytes
    → let hay = take (length bytes - at) (drop at bytes) in
    NoneBefore (Passes (is_byte byte) hay) 0 (length hay) k → Passes (is_byte byte) hay k
    → FirstFrom bytes byte at (at + k)
first_from bytes byte at k within none' here' =
    let hay = drop at bytes in
    let none : NoneBefore (Passes (is_byte byte) hay) 0 (length hay) k =
    subst (λ (x : List ℕ). NoneBefore (Passes (is_byte byte) x) 0 (length x) k)
    (take_rest bytes at) none' in
    let here : Passes (is_byte byte) hay k =
    subst (λ (x : List ℕ). Passes (is_byte byte) x k) (take_rest bytes at) here' in
    let low : k < length hay = none.high in
    let n : (at + k) - at ≡ k = omega arith in
    let m : at + (k + 1) ≡ at + k + 1 = omega arith in
    record {
      after = omega arith;
      within = omega (arith, length-drop at bytes);
      none_before = subst (λ (j : ℕ). All (λ x. eqb x byte ≡ false) (take j hay)) (sym n)
          (All-from_get_or (λ x. eqb x byte ≡ false) (take k hay) 0 (λ i h.
          let small : i < k = omega (arith, length-take k hay) in
          ap (λ (x : ℕ). eqb x byte) (get_or-take k hay i 0 small)
          ∙ false_from_ne_true (eqb (get_or hay i 0) byte)
          (none.before i (omega arith) small)));
      here =
          sym (take-append-drop k hay)
          ∙ (ap (λ (x : List ℕ). take k hay ++ x) (drop_more hay k 0 low)
          ∙ (ap (λ (x : ℕ). take k hay ++ x ∷ drop (k + 1) hay)
          (eqb-true (get_or hay k 0) byte here)
          ∙ (ap (λ (x : List ℕ). take k hay ++ byte ∷ x) (drop-drop (k + 1) at bytes
          ∙ ap (λ (j : ℕ). drop j bytes) m)
          ∙ ap (λ (j : ℕ). take j hay ++ byte ∷ drop (at + k + 1) bytes) (sym n))));
    }

-- the first line from `at` on ends with the newline at k
pub first_line : (partial bytes zs : List ℕ) (at k : ℕ) → FirstFrom bytes newline at k
    → led partial (lines (drop at bytes ++ zs))
    ≡ ((partial ++ take (k - at) (drop at bytes)) ++ newline ∷ []) ∷ lines
    (drop (k + 1) bytes ++ zs)
first_line partial bytes zs at k f =
    let front = take (k - at) (drop at bytes) in
    let after = drop (k + 1) bytes in
    ap (λ (x : List ℕ). led partial (lines (x ++ zs))) (f.here
    ∙ sym (append_assoc front (newline ∷ []) after))
    ∙ (ap (λ (x : List ℕ). led partial (lines x)) (append_assoc (front ++ newline ∷ []) after zs)
    ∙ (ap (led partial) (lines-whole (front ++ newline ∷ []) (after ++ zs)
    (front, f.none_before, refl))
    ∙ (led-cons partial (front ++ newline ∷ []) (lines (after ++ zs))
    ∙ ap (λ (x : List ℕ). x ∷ lines (after ++ zs))
    (sym (append_assoc partial front (newline ∷ []))))))

onto_by : (b : Bool) (y : ℕ) (xs : List ℕ) (x : ℕ)
    → y ∷ cond b xs (xs ++ x ∷ []) ≡ cond b (y ∷ xs) (y ∷ (xs ++ x ∷ []))
onto_by true y xs x = refl
onto_by false y xs x = refl

content_push : (xs : List ℕ) (x : ℕ) → content (xs ++ x ∷ [])
    ≡ cond (eqb x newline) xs (xs ++ x ∷ [])
content_push [] x = refl
content_push (y ∷ []) x = onto_by (eqb x newline) y [] x
content_push (y ∷ z ∷ zs) x = ap (λ (ys : List ℕ). y ∷ ys) (content_push (z ∷ zs) x)
    ∙ onto_by (eqb x newline) y (z ∷ zs) x

-- the content of a line whose last byte is a newline, or is not
pub content_is : (b : Bool) (l : List ℕ) → 1 ≤ length l
    → eqb (get_or l (length l - 1) 0) newline ≡ b → content l ≡ cond b (take (length l - 1) l) l
content_is b l some e =
    let last = length l - 1 in
    let n : last + 1 ≡ length l = omega arith in
    let split : l ≡ take last l ++ get_or l last 0 ∷ [] = sym (take_all (length l) l (omega arith))
    ∙ (ap (λ (k : ℕ). take k l) (sym n) ∙ take_more l last 0 (omega arith)) in
    ap content split
    ∙ (content_push (take last l) (get_or l last 0)
    ∙ (ap (λ (c : Bool). cond c (take last l) (take last l ++ get_or l last 0 ∷ [])) e
    ∙ ap (λ (x : List ℕ). cond b (take last l) x) (sym split)))

pub some_from : (l : List ℕ) → eqb (length l) 0 ≡ false → 1 ≤ length l
some_from [] h = absurd (cc)
some_from (x ∷ xs) h = omega arith

-- what comes before a byte, and the byte
pub part_and_byte : (bytes : List ℕ) (d at end : ℕ) → FirstFrom bytes d at end
    → take (end + 1 - at) (drop at bytes) ≡ take (end - at) (drop at bytes) ++ d ∷ []
part_and_byte bytes d at end f =
    let part = take (end - at) (drop at bytes) in
    let long : length part ≡ end - at =
    omega (
      arith,
      length-take (end - at) (drop at bytes),
      length-drop at bytes,
      f.after,
      f.within,
    ) in
    ap (take (end + 1 - at)) (f.here ∙ sym (append_assoc part (d ∷ []) (drop (end + 1) bytes)))
    ∙ take_at (part ++ d ∷ []) (drop (end + 1) bytes) (end + 1 - at)
    (omega (arith, length-append part (d ∷ []), long, f.after))
