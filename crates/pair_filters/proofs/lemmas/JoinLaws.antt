-- Lines that are joined piece by piece.
use Rattle.std.proofs.Common.{◌≡◌, ℕ, ◌+◌, ◌-◌, ◌<◌, ◌≤◌, Bool, true, false, cond, List, [], ◌∷◌}
use Rattle.std.proofs.Common.{◌++◌, Option, length, take, drop, map, refl, ap, ◌∙◌, sym, arith}
use Rattle.std.proofs.Common.{append_assoc}
use Rattle.std.proofs.lemmas.List.{append-nil, drop_all, length-drop}
use Rattle.machine.specs.Lines.{lines, led, content, newline, HasNoNewline}
use Rattle.machine.proofs.LinesLaws.{lines-open, content-whole}
use Rattle.commands.specs.Delimiters.{delimiter, behind, joined_from}
use Rattle.pair_filters.specs.Joins.{joined_on, JoinsBytes, PutsDue}
use Rattle.machine.specs.inner.Places.{FirstFrom}
use Rattle.pair_filters.specs.declared.serial.Joint.{Joint}
use Rattle.pair_filters.proofs.lemmas.IntakeLaws.{content_plain, first_line, lines_some}

-- nothing is due
pub due_not : (delimiters : List (Option ℕ)) (joint : Joint) (made : List ℕ) → joint.due ≡ false
    → PutsDue delimiters joint joint made made
due_not delimiters joint made h = record { due = h; splits = λ cell cells. refl }

-- a delimiter is
pub due_put : (delimiters : List (Option ℕ)) (joint : Joint) (next : ℕ) (made made' : List ℕ)
    → joint.due ≡ true → ((cells : List (List ℕ))
    → behind delimiters next cells ≡ behind delimiters (joint.next + 1) cells)
    → made' ≡ made ++ delimiter delimiters joint.next
    → PutsDue delimiters joint (record { next = next; due = false }) made made'
due_put delimiters joint next made made' h circle e =
    record {
      due = refl;
      splits = λ cell cells.
          let d = delimiter delimiters joint.next in
          let other = behind delimiters (joint.next + 1) cells in
          ap (λ (b : Bool). made ++ cond b (behind delimiters joint.next (cell ∷ cells))
          (joined_from delimiters joint.next (cell ∷ cells))) h
          ∙ (ap (λ (x : List ℕ). made ++ x) (append_assoc d cell other)
          ∙ (sym (append_assoc made d (cell ++ other))
          ∙ (ap (λ (x : List ℕ). x ++ (cell ++ other)) (sym e)
          ∙ ap (λ (x : List ℕ). made' ++ (cell ++ x)) (sym (circle cells)))));
    }

-- the bytes before `at` were joined
pub record JoinsUpTo (delimiters : List (Option ℕ)) (joint joint' : Joint) (bytes : List ℕ) (at : ℕ)
    (made made' : List ℕ) : Type 0 where
  pub within : at ≤ length bytes
  pub splits : (zs : List ℕ) → made ++ joined_on delimiters joint
      (map content (lines (bytes ++ zs))) ≡ made' ++ joined_on delimiters joint'
      (map content (lines (drop at bytes ++ zs)))

pub joined_none : (delimiters : List (Option ℕ)) (joint : Joint) (bytes made : List ℕ)
    → JoinsUpTo delimiters joint joint bytes 0 made made
joined_none delimiters joint bytes made = record { within = omega arith; splits = λ zs. refl }

-- all of them were
pub joined_all : (delimiters : List (Option ℕ)) (joint joint' : Joint) (bytes : List ℕ) (at : ℕ)
    (made made' : List ℕ) → JoinsUpTo delimiters joint joint' bytes at made made'
    → length bytes ≤ at → JoinsBytes delimiters joint joint' bytes made made'
joined_all delimiters joint joint' bytes at made made' j high =
    record {
      splits = λ zs. j.splits zs
          ∙ ap (λ (x : List ℕ). made' ++ joined_on delimiters joint'
          (map content (lines (x ++ zs)))) (drop_all at bytes high);
    }

due_lines : (delimiters : List (Option ℕ)) (joint joint' : Joint) (made made' : List ℕ)
    (ls : List (List ℕ)) → PutsDue delimiters joint joint' made made' → 1 ≤ length ls
    → made ++ joined_on delimiters joint (map content ls)
    ≡ made' ++ joined_on delimiters joint' (map content ls)
due_lines delimiters joint joint' made made' [] d some = absurd (omega (arith, some))
due_lines delimiters joint joint' made made' (l ∷ ls) d some = d.splits (content l) (map content ls)

some_left : (bytes : List ℕ) (at : ℕ) → at < length bytes → drop at bytes ≡ [] → ⊥
some_left bytes at low none =
    let long = ap length none in
    omega (arith, low, long, length-drop at bytes)

-- one line more
pub joined_more : (delimiters : List (Option ℕ)) (joint joint1 joint2 : Joint) (bytes : List ℕ)
    (at k : ℕ) (made made1 made2 made3 : List ℕ)
    → JoinsUpTo delimiters joint joint1 bytes at made made1
    → PutsDue delimiters joint1 joint2 made1 made2 → FirstFrom bytes newline at k
    → made3 ≡ made2 ++ take (k - at) (drop at bytes)
    → JoinsUpTo delimiters joint (record joint2 { due = true }) bytes (k + 1) made made3
joined_more delimiters joint joint1 joint2 bytes at k made made1 made2 made3 j d f e =
    let front = take (k - at) (drop at bytes) in
    record {
      within = omega (arith, f.within);
      splits = λ zs.
          let ls = lines (drop (k + 1) bytes ++ zs) in
          let line = front ++ newline ∷ [] in
          let other = behind delimiters joint2.next (map content ls) in
          j.splits zs
          ∙ (ap (λ (x : List (List ℕ)). made1 ++ joined_on delimiters joint1 (map content x))
          (first_line bytes zs at k f)
          ∙ (d.splits (content line) (map content ls)
          ∙ (ap (λ (b : Bool). made2 ++ cond b
          (behind delimiters joint2.next (content line ∷ map content ls))
          (content line ++ other)) d.due
          ∙ (ap (λ (x : List ℕ). made2 ++ (x ++ other)) (content-whole front)
          ∙ (sym (append_assoc made2 front other) ∙ ap (λ (x : List ℕ). x ++ other) (sym e))))));
    }

pub led_joined : (delimiters : List (Option ℕ)) (k : ℕ) (xs : List ℕ) (ls : List (List ℕ))
    → HasNoNewline xs → joined_from delimiters k (map content (led xs ls))
    ≡ xs ++ joined_from delimiters k (map content ls)
led_joined delimiters k [] ls plain = refl
led_joined delimiters k (x ∷ xs) [] plain =
    ap (λ (y : List ℕ). y ++ []) (ap content (sym (append-nil (x ∷ xs)))
    ∙ (content_plain (x ∷ xs) [] plain ∙ append-nil (x ∷ xs)))
led_joined delimiters k (x ∷ xs) (l ∷ ls) plain =
    ap (λ (y : List ℕ). y ++ behind delimiters k (map content ls)) (content_plain (x ∷ xs) l plain)
    ∙ append_assoc (x ∷ xs) (content l) (behind delimiters k (map content ls))

-- the beginning of a line
pub joined_part : (delimiters : List (Option ℕ)) (joint joint1 joint2 : Joint) (bytes : List ℕ)
    (at : ℕ) (made made1 made2 made3 : List ℕ)
    → JoinsUpTo delimiters joint joint1 bytes at made made1
    → PutsDue delimiters joint1 joint2 made1 made2 → at < length bytes
    → HasNoNewline (drop at bytes) → made3 ≡ made2 ++ drop at bytes
    → JoinsBytes delimiters joint joint2 bytes made made3
joined_part delimiters joint joint1 joint2 bytes at made made1 made2 made3 j d low plain e =
    let xs = drop at bytes in
    record {
      splits = λ zs.
          let k = joint2.next in
          let ls = lines zs in
          let after = joined_from delimiters k (map content ls) in
          j.splits zs
          ∙ (due_lines delimiters joint1 joint2 made1 made2 (lines (xs ++ zs)) d
          (lines_some xs zs (some_left bytes at low))
          ∙ (ap (λ (x : List (List ℕ)). made2 ++ joined_on delimiters joint2 (map content x))
          (lines-open xs zs plain)
          ∙ (ap (λ (b : Bool). made2 ++ cond b (behind delimiters k (map content (led xs ls)))
          (joined_from delimiters k (map content (led xs ls)))) d.due
          ∙ (ap (λ (x : List ℕ). made2 ++ x) (led_joined delimiters k xs ls plain)
          ∙ (sym (append_assoc made2 xs after)
          ∙ (ap (λ (x : List ℕ). x ++ after) (sym e)
          ∙ ap (λ (b : Bool). made3 ++ cond b (behind delimiters k (map content ls)) after)
          (sym d.due)))))));
    }
