-- What cut -b writes of the bytes that are left of an input.
use Rattle.std.proofs.Common.{◌≡◌, ℕ, suc, ◌+◌, ◌-◌, ◌<◌, ◌≤◌, Bool, true, false, cond, eqb, List}
use Rattle.std.proofs.Common.{[], ◌∷◌, ◌++◌, length, get_or, take, drop, refl, ap, ◌∙◌, sym, arith}
use Rattle.std.proofs.Common.{append_assoc, length-append}
use Rattle.std.specs.List.{flat_map}
use Rattle.std.proofs.lemmas.Bool.{eqb-true}
use Rattle.std.proofs.lemmas.Bool.Decides.{nat_tests}
use Rattle.std.proofs.lemmas.List.{append-nil, take-append-drop, drop-drop, drop_more}
use Rattle.std.proofs.lemmas.List.Elements.{All-append, All-cons, All-head, All-nil, All-tail}
use Rattle.std.proofs.Math.Seq.{take-add}
use Rattle.machine.specs.Lines.{lines, led, content, newline, HasNoNewline}
use Rattle.machine.specs.inner.Places.{FirstFrom}
use Rattle.machine.proofs.LinesLaws.{lines-open, led-led, led-cons, content-whole}
use Rattle.lanes.specs.inner.Walks.{Course, IsOneOfSeveral}
use Rattle.line_filters.specs.ByLine.{Makes}
use Rattle.commands.specs.declared.cut_words.Parts.TheVariants.{Bytes}
use Rattle.commands.specs.Cut.{cut_content}
use Rattle.commands.specs.Selections.{selected, selected_from}
use Rattle.line_filters.specs.ShortLines.{bytes_of_lines, bytes_left}
use Rattle.line_filters.proofs.lemmas.SelectLaws.{selected-append, selected-cons, cond_append}
use Rattle.line_filters.proofs.lemmas.ShortLaws.{of_end, of_other}
use Rattle.line_filters.proofs.lemmas.WalkedLaws.{as_walked}

no_bytes : HasNoNewline []
no_bytes = All-nil (λ x. eqb x newline ≡ false)

one_byte : (x : ℕ) → eqb x newline ≡ false → HasNoNewline (x ∷ [])
one_byte x e = All-cons (λ y. eqb y newline ≡ false) x [] e no_bytes

-- a byte that ends a line, and one that does not
left_end : (s : ℕ → Bool) (n x : ℕ) (xs : List ℕ) → eqb x newline ≡ true
    → bytes_left s n (x ∷ xs) ≡ newline ∷ bytes_left s 0 xs
left_end s n x xs e =
    ap (λ (b : Bool). cond b (x ∷ bytes_left s 0 xs)
    (cond (s (suc n)) (x ∷ bytes_left s (suc n) xs) (bytes_left s (suc n) xs))) e
    ∙ ap (λ (y : ℕ). y ∷ bytes_left s 0 xs) (eqb-true x newline e)

left_other : (s : ℕ → Bool) (n x : ℕ) (xs : List ℕ) → eqb x newline ≡ false
    → bytes_left s n (x ∷ xs) ≡ cond (s (n + 1)) (x ∷ bytes_left s (n + 1) xs)
    (bytes_left s (n + 1) xs)
left_other s n x xs e =
    let m : suc n ≡ n + 1 = omega arith in
    ap (λ (b : Bool). cond b (x ∷ bytes_left s 0 xs)
    (cond (s (suc n)) (x ∷ bytes_left s (suc n) xs) (bytes_left s (suc n) xs))) e
    ∙ ap (λ (k : ℕ). cond (s k) (x ∷ bytes_left s k xs) (bytes_left s k xs)) m

-- bytes of a line that is begun
pub left_front : (s : ℕ → Bool) (n : ℕ) (front zs : List ℕ) → HasNoNewline front
    → bytes_left s n (front ++ zs) ≡ selected_from s (n + 1) front ++ bytes_left s
    (n + length front) zs
left_front s n [] zs none = let e : n ≡ n + 0 = omega arith in ap (λ (k : ℕ). bytes_left s k zs) e
left_front s n (x ∷ front) zs none =
    let later = bytes_left s (n + 1 + length front) zs in
    let e : n + 1 + length front ≡ n + length (x ∷ front) = omega arith in
    left_other s n x (front ++ zs) (All-head (λ y. eqb y newline ≡ false) x front none)
    ∙ (ap (λ (ys : List ℕ). cond (s (n + 1)) (x ∷ ys) ys)
    (left_front s (n + 1) front zs (All-tail (λ y. eqb y newline ≡ false) x front none))
    ∙ (cond_append (s (n + 1)) x (selected_from s (n + 1 + 1) front) later
    ∙ (ap (λ (ys : List ℕ). ys ++ later) (sym (selected-cons s (n + 1) x front))
    ∙ ap (λ (k : ℕ). selected_from s (n + 1) (x ∷ front) ++ bytes_left s k zs) e)))

-- whole lines
whole_by : (s : ℕ → Bool) (n x : ℕ) (front zs : List ℕ) (b : Bool) → eqb x newline ≡ b
    → bytes_left s 0 (front ++ newline ∷ zs) ≡ bytes_of_lines s 0 (front ++ newline ∷ [])
    ++ bytes_left s 0 zs → bytes_left s (n + 1) (front ++ newline ∷ zs)
    ≡ bytes_of_lines s (n + 1) (front ++ newline ∷ []) ++ bytes_left s 0 zs
    → bytes_left s n (x ∷ front ++ newline ∷ zs) ≡ bytes_of_lines s n (x ∷ front ++ newline ∷ [])
    ++ bytes_left s 0 zs
whole_by s n x front zs true e again more =
    let first : newline ≡ x = sym (eqb-true x newline e) in
    left_end s n x (front ++ newline ∷ zs) e
    ∙ (ap (λ (y : List ℕ). newline ∷ y) again
    ∙ (ap (λ (y : ℕ). y ∷ (bytes_of_lines s 0 (front ++ newline ∷ []) ++ bytes_left s 0 zs)) first
    ∙ ap (λ (y : List ℕ). y ++ bytes_left s 0 zs) (sym (of_end s n x (front ++ newline ∷ []) e))))
whole_by s n x front zs false e again more =
    let put = front ++ newline ∷ [] in
    let m : n + 1 ≡ suc n = omega arith in
    left_other s n x (front ++ newline ∷ zs) e
    ∙ (ap (λ (ys : List ℕ). cond (s (n + 1)) (x ∷ ys) ys) more
    ∙ (cond_append (s (n + 1)) x (bytes_of_lines s (n + 1) put) (bytes_left s 0 zs)
    ∙ (ap (λ (k : ℕ). cond (s k) (x ∷ bytes_of_lines s k put) (bytes_of_lines s k put)
    ++ bytes_left s 0 zs) m
    ∙ ap (λ (y : List ℕ). y ++ bytes_left s 0 zs) (sym (of_other s n x put e)))))

pub left_whole : (s : ℕ → Bool) (n : ℕ) (front zs : List ℕ)
    → bytes_left s n (front ++ newline ∷ zs) ≡ bytes_of_lines s n (front ++ newline ∷ [])
    ++ bytes_left s 0 zs
left_whole s n [] zs = refl
left_whole s n (x ∷ front) zs =
    whole_by s n x front zs (eqb x newline) refl (left_whole s 0 front zs)
    (left_whole s (n + 1) front zs)

-- one byte more of a line
selected_one : (s : ℕ → Bool) (p : List ℕ) (x : ℕ) (later : List ℕ)
    → selected s (p ++ x ∷ []) ++ later ≡ selected s p
    ++ (cond (s (length p + 1)) (x ∷ []) [] ++ later)
selected_one s p x later =
    let n : length p + 1 ≡ 1 + length p = omega arith in
    ap (λ (y : List ℕ). y ++ later)
    (selected-append s 1 (length p + 1) p (x ∷ []) n
    ∙ ap (λ (y : List ℕ). selected s p ++ y) (selected-cons s (length p + 1) x []))
    ∙ append_assoc (selected s p) (cond (s (length p + 1)) (x ∷ []) []) later

keep_one : (b : Bool) (x : ℕ) (ys : List ℕ) → cond b (x ∷ []) [] ++ ys ≡ cond b (x ∷ ys) ys
keep_one true x ys = refl
keep_one false x ys = refl

content-open : (p : List ℕ) → HasNoNewline p → content p ≡ p
content-open [] none = refl
content-open (x ∷ []) none = ap (λ (b : Bool). cond b [] (x ∷ []))
    (All-head (λ y. eqb y newline ≡ false) x [] none)
content-open (x ∷ y ∷ ys) none = ap (λ (zs : List ℕ). x ∷ zs)
    (content-open (y ∷ ys) (All-tail (λ y. eqb y newline ≡ false) x (y ∷ ys) none))

abbrev of_lines : (ℕ → Bool) → List (List ℕ) → List ℕ
of_lines s ls = flat_map (λ (l : List ℕ). cut_content s Bytes (content l)) ls

-- what is written of a line that ends
of_first : (s : ℕ → Bool) (p : List ℕ) (ls : List (List ℕ))
    → of_lines s (led p ((newline ∷ []) ∷ ls)) ≡ selected s p ++ newline ∷ of_lines s ls
of_first s p ls =
    ap (of_lines s) (led-cons p (newline ∷ []) ls)
    ∙ (ap (λ (x : List ℕ). (selected s x ++ newline ∷ []) ++ of_lines s ls) (content-whole p)
    ∙ append_assoc (selected s p) (newline ∷ []) (of_lines s ls))

-- what is written of a line that does not end
some_passed : (n : ℕ) → 1 ≤ n → eqb n 0 ≡ false
some_passed n some = grind (arith, nat_tests)

of_last : (s : ℕ → Bool) (p : List ℕ) → HasNoNewline p
    → of_lines s (led p []) ≡ selected s p ++ bytes_left s (length p) []
of_last s [] none = refl
of_last s (x ∷ p) none =
    append-nil (selected s (content (x ∷ p)) ++ newline ∷ [])
    ∙ (ap (λ (y : List ℕ). selected s y ++ newline ∷ []) (content-open (x ∷ p) none)
    ∙ ap (λ (b : Bool). selected s (x ∷ p) ++ cond b [] (newline ∷ []))
    (sym (some_passed (length (x ∷ p)) (omega arith))))

-- the lines after the byte x, if the lines after it are known
lines_by : (s : ℕ → Bool) (p : List ℕ) (x : ℕ) (xs : List ℕ) (b : Bool) → eqb x newline ≡ b
    → of_lines s (lines xs) ≡ bytes_left s 0 xs
    → (eqb x newline ≡ false → of_lines s (led (p ++ x ∷ []) (lines xs))
    ≡ selected s (p ++ x ∷ []) ++ bytes_left s (length (p ++ x ∷ [])) xs)
    → of_lines s (led p (lines (x ∷ xs))) ≡ selected s p ++ bytes_left s (length p) (x ∷ xs)
lines_by s p x xs true e again more =
    let n : x ≡ newline = eqb-true x newline e in
    ap (λ (y : ℕ). of_lines s (led p (lines (y ∷ xs)))) n
    ∙ (of_first s p (lines xs)
    ∙ (ap (λ (y : List ℕ). selected s p ++ newline ∷ y) again
    ∙ ap (λ (y : List ℕ). selected s p ++ y) (sym (left_end s (length p) x xs e))))
lines_by s p x xs false e again more =
    let long : length (p ++ x ∷ []) ≡ length p + 1 = omega (arith, length-append p (x ∷ [])) in
    ap (λ (ls : List (List ℕ)). of_lines s (led p ls)) (lines-open (x ∷ []) xs (one_byte x e))
    ∙ (ap (of_lines s) (led-led p (x ∷ []) (lines xs))
    ∙ (more e
    ∙ (ap (λ (n : ℕ). selected s (p ++ x ∷ []) ++ bytes_left s n xs) long
    ∙ (selected_one s p x (bytes_left s (length p + 1) xs)
    ∙ (ap (λ (y : List ℕ). selected s p ++ y)
    (keep_one (s (length p + 1)) x (bytes_left s (length p + 1) xs))
    ∙ ap (λ (y : List ℕ). selected s p ++ y) (sym (left_other s (length p) x xs e)))))))

-- what is left is what the lines are; the first of them begins with `p`
pub left_lines : (s : ℕ → Bool) (p xs : List ℕ) → HasNoNewline p
    → of_lines s (led p (lines xs)) ≡ selected s p ++ bytes_left s (length p) xs
left_lines s p [] none = of_last s p none
left_lines s p (x ∷ xs) none =
    lines_by s p x xs (eqb x newline) refl (left_lines s [] xs no_bytes)
    (λ e. left_lines s (p ++ x ∷ []) xs
    (All-append (λ y. eqb y newline ≡ false) p (x ∷ []) none (one_byte x e)))

pub left_of_lines : (s : ℕ → Bool) (xs : List ℕ) → bytes_left s 0 xs ≡ of_lines s (lines xs)
left_of_lines s xs = sym (left_lines s [] xs no_bytes)

-- the bytes before `at` are taken
pub record BytesWalked (s : ℕ → Bool) (n n' : ℕ) (bytes : List ℕ) (at : ℕ) (made made' : List ℕ) :
    Type 0 where
  pub within : at ≤ length bytes
  pub splits : (zs : List ℕ) → made ++ bytes_left s n (bytes ++ zs)
      ≡ made' ++ bytes_left s n' (drop at bytes ++ zs)

pub bytes_walked_none : (s : ℕ → Bool) (n : ℕ) (bytes made : List ℕ)
    → BytesWalked s n n bytes 0 made made
bytes_walked_none s n bytes made = record { within = omega arith; splits = λ zs. refl }

-- one line more
bytes_walked_more : (s : ℕ → Bool) (n n1 n2 : ℕ) (bytes : List ℕ) (at k : ℕ)
    (made made1 made2 : List ℕ) → BytesWalked s n n1 bytes at made made1
    → FirstFrom bytes newline at k
    → made2 ≡ made1 ++ (selected_from s (n1 + 1) (take (k - at) (drop at bytes)) ++ newline ∷ [])
    → n2 ≡ 0 → BytesWalked s n n2 bytes (k + 1) made made2
bytes_walked_more s n n1 n2 bytes at k made made1 made2 w f e none =
    let front = take (k - at) (drop at bytes) in
    let after = drop (k + 1) bytes in
    let put = selected_from s (n1 + 1) front in
    record {
      within = omega (arith, f.within);
      splits = λ zs.
          let later = bytes_left s 0 (after ++ zs) in
          w.splits zs
          ∙ (ap (λ (x : List ℕ). made1 ++ bytes_left s n1 (x ++ zs)) f.here
          ∙ (ap (λ (x : List ℕ). made1 ++ bytes_left s n1 x)
          (append_assoc front (newline ∷ after) zs)
          ∙ (ap (λ (x : List ℕ). made1 ++ x)
          (left_front s n1 front (newline ∷ (after ++ zs)) f.none_before
          ∙ sym (append_assoc put (newline ∷ []) later))
          ∙ (sym (append_assoc made1 (put ++ newline ∷ []) later)
          ∙ (ap (λ (x : List ℕ). x ++ later) (sym e)
          ∙ ap (λ (j : ℕ). made2 ++ bytes_left s j (after ++ zs)) (sym none))))));
    }

-- the same if a walk over the newlines found the end of the line
pub bytes_walked_line : (s : ℕ → Bool) (n n1 n2 : ℕ) (bytes rest : List ℕ) (ends : Course)
    (at end : ℕ) (made made1 made2 : List ℕ) → BytesWalked s n n1 bytes at made made1
    → ends.bytes ≡ bytes → ends.byte ≡ newline → ends.from ≡ at
    → FirstFrom ends.bytes ends.byte ends.from end → rest ≡ take (end - at) (drop at bytes)
    → made2 ≡ made1 ++ (selected_from s (n1 + 1) rest ++ newline ∷ []) → n2 ≡ 0
    → BytesWalked s n n2 bytes (end + 1) made made2
bytes_walked_line s n n1 n2 bytes rest ends at end made made1 made2 w b d f first r e none =
    bytes_walked_more s n n1 n2 bytes at end made made1 made2 w
    (as_walked (λ d x k. FirstFrom x d k end) ends bytes newline at b d f first) (e
    ∙ ap (λ (x : List ℕ). made1 ++ (selected_from s (n1 + 1) x ++ newline ∷ [])) r) none

-- the lines up to a newline are taken
bytes_walked_several : (s : ℕ → Bool) (n n1 : ℕ) (bytes : List ℕ) (at place : ℕ)
    (made made1 made2 : List ℕ) → BytesWalked s n n1 bytes at made made1 → n1 ≡ 0 → at ≤ place
    → place < length bytes → eqb (get_or bytes place 0) newline ≡ true
    → made2 ≡ made1 ++ bytes_of_lines s 0 (take (place + 1 - at) (drop at bytes))
    → BytesWalked s n n1 bytes (place + 1) made made2
bytes_walked_several s n n1 bytes at place made made1 made2 w none after within here e =
    let front = take (place - at) (drop at bytes) in
    let later = drop (place + 1) bytes in
    let k : at + (place - at) ≡ place = omega (arith, after) in
    let m : place - at + 1 ≡ place + 1 - at = omega (arith, after) in
    let rest : drop (place - at) (drop at bytes) ≡ newline ∷ later =
    drop-drop (place - at) at bytes
    ∙ (ap (λ (j : ℕ). drop j bytes) k
    ∙ (drop_more bytes place 0 within
    ∙ ap (λ (x : ℕ). x ∷ later) (eqb-true (get_or bytes place 0) newline here))) in
    let whole : drop at bytes ≡ front ++ newline ∷ later =
    sym (take-append-drop (place - at) (drop at bytes))
    ∙ ap (λ (x : List ℕ). front ++ x) rest in
    let part : take (place + 1 - at) (drop at bytes) ≡ front ++ newline ∷ [] =
    ap (λ (j : ℕ). take j (drop at bytes)) (sym m)
    ∙ (take-add (place - at) 1 (drop at bytes) ∙ ap (λ (x : List ℕ). front ++ take 1 x) rest) in
    record {
      within = omega arith;
      splits = λ zs.
          let rests = bytes_left s 0 (later ++ zs) in
          w.splits zs
          ∙ (ap (λ (j : ℕ). made1 ++ bytes_left s j (drop at bytes ++ zs)) none
          ∙ (ap (λ (x : List ℕ). made1 ++ bytes_left s 0 (x ++ zs)) whole
          ∙ (ap (λ (x : List ℕ). made1 ++ bytes_left s 0 x)
          (append_assoc front (newline ∷ later) zs)
          ∙ (ap (λ (x : List ℕ). made1 ++ x) (left_whole s 0 front (later ++ zs))
          ∙ (sym (append_assoc made1 (bytes_of_lines s 0 (front ++ newline ∷ [])) rests)
          ∙ (ap (λ (x : List ℕ). (made1 ++ bytes_of_lines s 0 x) ++ rests) (sym part)
          ∙ (ap (λ (x : List ℕ). x ++ rests) (sym e)
          ∙ ap (λ (j : ℕ). made2 ++ bytes_left s j (later ++ zs)) (sym none))))))));
    }

-- the same if a walk over the newlines passed several
pub bytes_walked_on : (s : ℕ → Bool) (n n1 : ℕ) (bytes : List ℕ) (ends : Course) (at place : ℕ)
    (made made1 made2 : List ℕ) → BytesWalked s n n1 bytes at made made1 → n1 ≡ 0
    → ends.bytes ≡ bytes → ends.byte ≡ newline → ends.from ≡ at → IsOneOfSeveral ends place
    → made2 ≡ made1 ++ bytes_of_lines s 0 (take (place + 1 - at) (drop at bytes))
    → BytesWalked s n n1 bytes (place + 1) made made2
bytes_walked_on s n n1 bytes ends at place made made1 made2 w none b d f one e =
    bytes_walked_several s n n1 bytes at place made made1 made2 w none (omega (arith, f, one.after))
    (omega (arith, one.within, ap length b))
    (ap (λ (x : List ℕ). eqb (get_or x place 0) newline) (sym b)
    ∙ (ap (λ (d : ℕ). eqb (get_or ends.bytes place 0) d) (sym d) ∙ one.here)) e

-- no line ends in what is left
pub bytes_walked_all : (s : ℕ → Bool) (n n1 n2 : ℕ) (bytes : List ℕ) (at : ℕ)
    (made made1 made2 : List ℕ) → BytesWalked s n n1 bytes at made made1
    → HasNoNewline (drop at bytes) → made2 ≡ made1 ++ selected_from s (n1 + 1) (drop at bytes)
    → n2 ≡ n1 + length (drop at bytes) → Makes (bytes_left s n) (bytes_left s n2) bytes made made2
bytes_walked_all s n n1 n2 bytes at made made1 made2 w none e m =
    record {
      splits = λ zs.
          w.splits zs
          ∙ (ap (λ (x : List ℕ). made1 ++ x) (left_front s n1 (drop at bytes) zs none)
          ∙ (sym (append_assoc made1 (selected_from s (n1 + 1) (drop at bytes))
          (bytes_left s (n1 + length (drop at bytes)) zs))
          ∙ (ap (λ (x : List ℕ). x ++ bytes_left s (n1 + length (drop at bytes)) zs) (sym e)
          ∙ ap (λ (j : ℕ). made2 ++ bytes_left s j zs) (sym m))));
    }
