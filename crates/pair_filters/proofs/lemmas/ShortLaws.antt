-- Near lines that uniq takes, and what is put together of their runs.
use Rattle.std.proofs.Common.{◌≡◌, ℕ, suc, ◌+◌, ◌-◌, ◌<◌, ◌≤◌, Bool, true, false, cond, eqb, ltb}
use Rattle.std.proofs.Common.{List, [], ◌∷◌, ◌++◌, length, take, drop, refl, ap, ◌∙◌, sym, subst}
use Rattle.std.proofs.Common.{arith, append_assoc}
use Rattle.std.specs.Prelude.{◌&&◌, replicate}
use Rattle.std.specs.Prelude.{IfOk}
use Rattle.std.specs.declared.result.Result.{Result}
use Rattle.std.specs.declared.result.Result.TheVariants.{Ok, Err}
use Rattle.std.specs.List.{All}
use Rattle.std.specs.Str.{bytes_eq}
use Rattle.std.proofs.lemmas.Bool.{eq-eqb, eqb-true, lt-ltb}
use Rattle.std.proofs.lemmas.List.{append-nil, drop-drop, length-drop, length-take, take-take}
use Rattle.std.proofs.lemmas.List.{take_rest}
use Rattle.std.proofs.Math.Seq.{take-append-add, take-append_seam}
use Rattle.std.proofs.lemmas.List.Elements.{All-head, All-tail}
use Rattle.machine.specs.Lines.{HasNoNewline, newline}
use Rattle.machine.specs.inner.Places.{FirstFrom}
use Rattle.commands.specs.declared.uniq_words.RunsShown.{RunsShown}
use Rattle.commands.specs.declared.uniq_words.RunsShown.TheVariants.{Every, Counted, Repeated}
use Rattle.commands.specs.declared.uniq_words.RunsShown.TheVariants.{Single}
use Rattle.commands.specs.Keys.{after_fields}
use Rattle.commands.specs.Uniq.{run_text}
use Rattle.pair_filters.specs.declared.short_runs.LastLine.{LastLine}
use Rattle.pair_filters.specs.declared.runs.Rules.{Rules}
use Rattle.pair_filters.specs.LineKeys.{key_by}
use Rattle.pair_filters.specs.UniqSteps.{TakesLine, contents_behind, greatest_by, one_more, text_by}
use Rattle.pair_filters.specs.inner.ShortSteps.{TakesRuns, TakesUpTo, are_alike, line_at}
use Rattle.pair_filters.proofs.lemmas.RunLaws.{same_is}
use Rattle.pair_filters.proofs.lemmas.TakeLaws.{RunsWalked, contents_first, with_newline}
use Rattle.pair_filters.proofs.lemmas.UniqLaws.{goes_on_by, one_more_some, some_lines, takes_more}
use Rattle.pair_filters.proofs.lemmas.UniqLaws.{takes_other}

-- a place in what follows a place
pub first_behind : (bytes : List ℕ) (d base from k : ℕ) → FirstFrom (drop base bytes) d from k
    → FirstFrom bytes d (base + from) (base + k)
first_behind bytes d base from k f =
    let n : base + k - (base + from) ≡ k - from = omega arith in
    let m : base + (k + 1) ≡ base + k + 1 = omega arith in
    let front : take (k - from) (drop from (drop base bytes))
    ≡ take (base + k - (base + from)) (drop (base + from) bytes) =
    ap (take (k - from)) (drop-drop from base bytes)
    ∙ ap (λ (j : ℕ). take j (drop (base + from) bytes)) (sym n) in
    record {
      after = omega (arith, f.after);
      within = omega (arith, f.within, length-drop base bytes);
      none_before = subst (All (λ x. eqb x d ≡ false)) front f.none_before;
      here =
          sym (drop-drop from base bytes)
          ∙ (f.here
          ∙ (ap (λ (x : List ℕ). x ++ d ∷ drop (k + 1) (drop base bytes)) front
          ∙ ap (λ (x : List ℕ). take (base + k - (base + from)) (drop (base + from) bytes) ++ d ∷ x)
          (drop-drop (k + 1) base bytes ∙ ap (λ (j : ℕ). drop j bytes) m)));
    }

unlike : (x y : ℕ) (b : Bool) → eqb x y ≡ false → eqb y x ≡ b → b ≡ false
unlike x y true h e = sym (eq-eqb x x refl) ∙ subst (λ (k : ℕ). eqb x k ≡ false) (eqb-true y x e) h
unlike x y false h e = refl

-- whether lines are the same, told with what follows the one
same_ends : (f g r : List ℕ) → HasNoNewline f → HasNoNewline g
    → bytes_eq (take (length g + 1) (f ++ newline ∷ r)) (g ++ newline ∷ []) ≡ bytes_eq f g
same_ends [] [] r h k = refl
same_ends [] (y ∷ g) r h k =
    let n : length (y ∷ g) + 1 ≡ suc (length g + 1) = omega arith in
    ap (λ (j : ℕ). bytes_eq (take j (newline ∷ r)) (y ∷ (g ++ newline ∷ []))) n
    ∙ ap (λ (b : Bool). b && bytes_eq (take (length g + 1) r) (g ++ newline ∷ []))
    (unlike y newline (eqb newline y) (All-head (λ x. eqb x newline ≡ false) y g k) refl)
same_ends (x ∷ f) [] r h k = ap (λ (b : Bool). b && bytes_eq (take 0 (f ++ newline ∷ r)) [])
    (All-head (λ x. eqb x newline ≡ false) x f h)
same_ends (x ∷ f) (y ∷ g) r h k =
    let n : length (y ∷ g) + 1 ≡ suc (length g + 1) = omega arith in
    ap (λ (j : ℕ). bytes_eq (take j (x ∷ (f ++ newline ∷ r))) (y ∷ (g ++ newline ∷ []))) n
    ∙ ap (λ (b : Bool). eqb x y && b)
    (same_ends f g r (All-tail (λ x. eqb x newline ≡ false) x f h)
    (All-tail (λ x. eqb x newline ≡ false) y g k))

-- the same of two lines of a piece
pub lines_same : (bytes : List ℕ) (s e at k n : ℕ) → FirstFrom bytes newline s e
    → FirstFrom bytes newline at k → n ≡ k + 1 - at
    → bytes_eq (take n (drop s bytes)) (take n (drop at bytes))
    ≡ bytes_eq (line_at bytes s e) (line_at bytes at k)
lines_same bytes s e at k n f g is =
    let front = line_at bytes s e in
    let line = line_at bytes at k in
    let long : n ≡ length line + 1 =
    omega (
      arith,
      is,
      g.after,
      g.within,
      length-take (k - at) (drop at bytes),
      length-drop at bytes,
    ) in
    ap (λ (x : List ℕ). bytes_eq (take n (drop s bytes)) x)
    (ap (λ (j : ℕ). take j (drop at bytes)) is ∙ with_newline bytes at k g)
    ∙ (ap (λ (x : List ℕ). bytes_eq (take n x) (line ++ newline ∷ [])) f.here
    ∙ (ap (λ (j : ℕ). bytes_eq (take j (front ++ newline ∷ drop (e + 1) bytes))
    (line ++ newline ∷ [])) long
    ∙ same_ends front line (drop (e + 1) bytes) f.none_before g.none_before))

-- if whole lines are compared, the key of a line is the line
whole_key : (rules : Rules) (l : List ℕ) → (rules.skipped_fields ≡ 0) × (rules.skipped_bytes ≡ 0)
    → l ≡ key_by rules l
whole_key rules l h = sym (ap (λ (n : ℕ). drop n (after_fields rules.skipped_fields l)) (h.1)
    ∙ ap (λ (n : ℕ). after_fields n l) (h.0))

goes_on : (rules : Rules) (f l : List ℕ) (n : ℕ) (b : Bool)
    → (rules.skipped_fields ≡ 0) × (rules.skipped_bytes ≡ 0) → 1 ≤ n → b ≡ bytes_eq f l
    → b ≡ (ltb 0 n && bytes_eq (key_by rules f) (key_by rules l))
goes_on rules f l n b h some e = goes_on_by rules f l f l n b (e
    ∙ ap (λ (c : Bool). c && bytes_eq f l) (sym (lt-ltb 0 n (omega arith)))) (whole_key rules f h)
    (whole_key rules l h)

taken_by : (b : Bool) (rules : Rules) (f l : List ℕ) (n : ℕ) (made : List ℕ)
    → (rules.skipped_fields ≡ 0) × (rules.skipped_bytes ≡ 0) → 1 ≤ n → b ≡ bytes_eq f l
    → TakesLine rules (replicate n f) (replicate (cond b (one_more rules.shown n) 1) l) l made
    (made ++ cond b [] (run_text rules.shown f n))
taken_by true rules f l n made h some e =
    let more = one_more rules.shown n in
    subst (λ (m : List ℕ). TakesLine rules (replicate n f) (replicate more l) l made m)
    (sym (append-nil made))
    (subst (λ (x : List ℕ). TakesLine rules (replicate n f) (replicate more x) l made made)
    (same_is f l (sym e))
    (takes_more rules f l n more true made (goes_on rules f l n true h some e) refl refl))
taken_by false rules f l n made h some e =
    takes_other rules f l n false made (made ++ run_text rules.shown f n)
    (goes_on rules f l n false h some e) refl
    (ap (λ (x : List ℕ). made ++ x) (sym (some_lines rules f n some)))

up_to_none : (rules : Rules) (begun : List (List ℕ)) (bytes : List ℕ) (from : ℕ) (made : List ℕ)
    → TakesUpTo rules begun begun bytes from from made made
up_to_none rules begun bytes from made = record { splits = λ zs. refl; counts = λ zs. omega arith }

up_to_more : (rules : Rules) (begun begun1 begun2 : List (List ℕ)) (bytes : List ℕ) (from at k : ℕ)
    (made made1 made2 : List ℕ) → TakesUpTo rules begun begun1 bytes from at made made1
    → FirstFrom bytes newline at k → TakesLine rules begun1 begun2 (line_at bytes at k) made1 made2
    → TakesUpTo rules begun begun2 bytes from (k + 1) made made2
up_to_more rules begun begun1 begun2 bytes from at k made made1 made2 w f t =
    record {
      splits = λ zs.
          let later = contents_behind [] (drop (k + 1) bytes ++ zs) in
          w.splits zs
          ∙ (ap (λ (ls : List (List ℕ)). made1 ++ text_by rules (begun1 ++ ls))
          (contents_first [] bytes zs at k f) ∙ t.splits later);
      counts = λ zs.
          let later = contents_behind [] (drop (k + 1) bytes ++ zs) in
          let e : greatest_by rules (begun1 ++ contents_behind [] (drop at bytes ++ zs))
          ≡ greatest_by rules (begun1 ++ line_at bytes at k ∷ later) =
          ap (λ (ls : List (List ℕ)). greatest_by rules (begun1 ++ ls))
          (contents_first [] bytes zs at k f) in
          omega (arith, w.counts zs, t.counts later);
    }

-- no line was taken after the one with which the run begins
pub runs_begun : (rules : Rules) (bytes : List ℕ) (start end : ℕ) (made : List ℕ)
    → FirstFrom bytes newline start end
    → TakesRuns rules bytes start end (record { start = start; end = end; count = 1 }) made made
runs_begun rules bytes start end made f =
    record {
      line = f;
      some = omega arith;
      order = omega arith;
      taken =
          up_to_none rules (replicate 1 (line_at bytes start end)) bytes (end + 1) made;
    }

some_after : (b : Bool) (rules : Rules) (n count : ℕ) → count ≡ cond b (one_more rules.shown n) 1
    → 1 ≤ count
some_after true rules n count e = one_more_some rules.shown n count e
some_after false rules n count e = omega arith

-- how the bytes that were put together grow
put_after : (made1 made2 front back text : List ℕ) → made2 ++ front ≡ made1 → back ≡ front ++ text
    → made1 ++ text ≡ made2 ++ back
put_after made1 made2 front back text e b =
    ap (λ (x : List ℕ). x ++ text) (sym e)
    ∙ (append_assoc made2 front text ∙ ap (λ (x : List ℕ). made2 ++ x) (sym b))

few_after : (b : Bool) (shown : RunsShown) (n count : ℕ) → n < 9
    → count ≡ cond b (one_more shown n) 1 → count ≤ 9
few_after true Every n count h e = omega arith
few_after true Counted n count h e = omega arith
few_after true Repeated n count h e = omega arith
few_after true Single n count h e = omega arith
few_after false shown n count h e = omega arith

-- a run of a few lines stays one
pub still_few : (bytes : List ℕ) (shown : RunsShown) (last : LastLine) (k count : ℕ)
    → last.count < 9 → count ≡ cond (are_alike bytes last k) (one_more shown last.count) 1
    → count ≤ 9
still_few bytes shown last k count h e =
    few_after (are_alike bytes last k) shown last.count count h e

-- one line more
pub runs_more : (rules : Rules) (bytes : List ℕ) (start end k : ℕ) (last next : LastLine)
    (made made1 made2 front back : List ℕ) → (rules.skipped_fields ≡ 0) × (rules.skipped_bytes ≡ 0)
    → TakesRuns rules bytes start end last made made1 → FirstFrom bytes newline (last.end + 1) k
    → (next.start ≡ last.end + 1) × (next.end ≡ k)
    → next.count ≡ cond (are_alike bytes last k) (one_more rules.shown last.count) 1
    → made2 ++ front ≡ made1 → back ≡ front ++ cond (are_alike bytes last k) []
    (run_text rules.shown (line_at bytes last.start last.end) last.count)
    → TakesRuns rules bytes start end next made (made2 ++ back)
runs_more rules bytes start end k last next made made1 made2 front back h w f s c e b =
    let first = line_at bytes last.start last.end in
    let line = line_at bytes (last.end + 1) k in
    let begun = replicate 1 (line_at bytes start end) in
    let same = bytes_eq first line in
    let text = cond same [] (run_text rules.shown first last.count) in
    let t : TakesLine rules (replicate last.count first) (replicate next.count line) line made1
    (made2 ++ back) =
    subst (λ (m : List ℕ). TakesLine rules (replicate last.count first)
    (replicate next.count line) line made1 m) (put_after made1 made2 front back text e b)
    (subst (λ (n : ℕ). TakesLine rules (replicate last.count first) (replicate n line) line made1
    (made1 ++ text)) (sym c) (taken_by same rules first line last.count made1 h w.some refl)) in
    record {
      line = subst (λ (j : ℕ). FirstFrom bytes newline next.start j) (sym (s.1))
          (subst (λ (j : ℕ). FirstFrom bytes newline j k) (sym (s.0)) f);
      some = some_after same rules last.count next.count c;
      order = omega (arith, w.order, f.after, s.1);
      taken =
          subst (λ (j : ℕ). TakesUpTo rules begun
          (replicate next.count (line_at bytes next.start j)) bytes (end + 1) (j + 1) made
          (made2 ++ back)) (sym (s.1))
          (subst (λ (j : ℕ). TakesUpTo rules begun (replicate next.count (line_at bytes j k)) bytes
          (end + 1) (k + 1) made (made2 ++ back)) (sym (s.0))
          (up_to_more rules begun (replicate last.count first) (replicate next.count line) bytes
          (end + 1) (last.end + 1) k made made1 (made2 ++ back) w.taken f t));
    }

-- all that was put together is put out
pub runs_out : {E : Type 0} (rules : Rules) (bytes : List ℕ) (start end : ℕ) (line : LastLine)
    (made made1 made2 front : List ℕ) (r : Result LastLine E)
    → IfOk r (λ last. (last ≡ line) × (made2 ≡ made1 ++ front))
    → TakesRuns rules bytes start end line made (made1 ++ front)
    → IfOk r (λ last. TakesRuns rules bytes start end last made made2)
runs_out rules bytes start end line made made1 made2 front (Err e) h w = tt
runs_out rules bytes start end line made made1 made2 front (Ok last) h w =
    subst (λ (l : LastLine). TakesRuns rules bytes start end l made made2) (sym (h.0))
    (subst (λ (m : List ℕ). TakesRuns rules bytes start end line made m) (sym (h.1)) w)

-- and after what was taken before
pub runs_walked : (rules : Rules) (begun : List (List ℕ)) (bytes : List ℕ) (start end : ℕ)
    (last : LastLine) (made made1 made2 : List ℕ)
    → RunsWalked rules begun (replicate 1 (line_at bytes start end)) bytes (end + 1) made made1
    → TakesRuns rules bytes start end last made1 made2
    → RunsWalked rules begun (replicate last.count (line_at bytes last.start last.end)) bytes
    (last.end + 1) made made2
runs_walked rules begun bytes start end last made made1 made2 w t =
    record {
      within = omega (arith, t.line.within);
      splits = λ zs. w.splits zs ∙ t.taken.splits zs;
      counts = λ zs. omega (arith, w.counts zs, t.taken.counts zs);
    }

-- the next line, as a walk over what follows a place finds it
pub walked_behind : (bytes of : List ℕ) (base byte from end place : ℕ) → of ≡ drop base bytes
    → byte ≡ newline → base + from ≡ end + 1 → FirstFrom of byte from place
    → FirstFrom bytes newline (end + 1) (base + place)
walked_behind bytes of base byte from end place e b n f =
    subst (λ (k : ℕ). FirstFrom bytes newline k (base + place)) n
    (first_behind bytes newline base from place
    (subst (λ (x : List ℕ). FirstFrom x newline from place) e
    (subst (λ (d : ℕ). FirstFrom of d from place) b f)))

-- the first bytes of what was copied
pub copied_some : (old bytes new : List ℕ) (to whole count : ℕ) → to ≤ length old → count ≤ whole
    → take (to + whole) new ≡ take to old ++ take whole bytes
    → take (to + count) new ≡ take to old ++ take count bytes
copied_some old bytes new to whole count within few copied =
    let n : to + count ≡ length (take to old) + count = omega (arith, within, length-take to old) in
    sym (take-take (to + count) (to + whole) new (omega (arith, few)))
    ∙ (ap (take (to + count)) copied
    ∙ (ap (λ (k : ℕ). take k (take to old ++ take whole bytes)) n
    ∙ (take-append-add (take to old) (take whole bytes) count
    ∙ ap (λ (x : List ℕ). take to old ++ x) (take-take count whole bytes few))))

-- the bytes before it
pub copied_kept : (old text new : List ℕ) (to whole : ℕ) → to ≤ length old → to ≤ whole
    → take whole new ≡ take to old ++ text → take to new ≡ take to old
copied_kept old text new to whole within more copied =
    let n : to ≡ length (take to old) = omega (arith, within, length-take to old) in
    sym (take-take to whole new more)
    ∙ (ap (take to) copied ∙ (ap (λ (k : ℕ). take k (take to old ++ text)) n
    ∙ take-append_seam (take to old) text))

-- a digit, a space and a line
pub counted_text : (old first second new number line : List ℕ)
    (to to1 to2 end count digit space : ℕ) → to1 ≡ to + 1 → to2 ≡ to1 + 1
    → take (to + 1) first ≡ take to old ++ digit ∷ []
    → take (to1 + 1) second ≡ take to1 first ++ space ∷ [] → take end new ≡ take to2 second ++ line
    → number ≡ digit ∷ [] → take end new ≡ take to old ++ (number ++ space ∷ line)
counted_text old first second new number line to to1 to2 end count digit space e f a b c d =
    c
    ∙ (ap (λ (k : ℕ). take k second ++ line) f
    ∙ (ap (λ (x : List ℕ). x ++ line) b
    ∙ (ap (λ (k : ℕ). (take k first ++ space ∷ []) ++ line) e
    ∙ (ap (λ (x : List ℕ). (x ++ space ∷ []) ++ line) a
    ∙ (append_assoc (take to old ++ digit ∷ []) (space ∷ []) line
    ∙ (append_assoc (take to old) (digit ∷ []) (space ∷ line)
    ∙ ap (λ (x : List ℕ). take to old ++ (x ++ space ∷ line)) (sym d)))))))

-- the first bytes of bytes that are kept
pub kept_less : (old new : List ℕ) (to whole : ℕ) → to ≤ whole → take whole new ≡ take whole old
    → take to new ≡ take to old
kept_less old new to whole less e = sym (take-take to whole new less)
    ∙ (ap (take to) e ∙ take-take to whole old less)

-- two bytes and more were written
pub counted_kept : (old first second new : List ℕ) (to two digit space : ℕ) → to + 1 ≤ length old
    → to + 1 ≤ length first → two ≡ to + 2 → take (to + 1) first ≡ take to old ++ digit ∷ []
    → take (to + 1 + 1) second ≡ take (to + 1) first ++ space ∷ [] → take two new ≡ take two second
    → take to new ≡ take to old
counted_kept old first second new to two digit space h k n a b c =
    kept_less second new to two (omega arith) c
    ∙ (kept_less first second to (to + 1) (omega arith)
    (copied_kept first (space ∷ []) second (to + 1) (to + 1 + 1) k (omega arith) b)
    ∙ copied_kept old (digit ∷ []) first to (to + 1) (omega arith) (omega arith) a)

-- the beginnings of two lines next to each other, as slices show them
pub alike_is : (bytes : List ℕ) (last : LastLine) (k : ℕ) (r : Bool)
    → FirstFrom bytes newline last.start last.end → FirstFrom bytes newline (last.end + 1) k
    → r ≡ bytes_eq (take (k + 1 - (last.end + 1))
    (take (length bytes - last.start) (drop last.start bytes)))
    (take (k + 1 - (last.end + 1))
    (take (length bytes - (last.end + 1)) (drop (last.end + 1) bytes))) → r ≡ are_alike bytes last k
alike_is bytes last k r f g e =
    let at = last.end + 1 in
    let n = k + 1 - at in
    e
    ∙ (ap (λ (x : List ℕ). bytes_eq (take n x) (take n (take (length bytes - at) (drop at bytes))))
    (take_rest bytes last.start)
    ∙ (ap (λ (x : List ℕ). bytes_eq (take n (drop last.start bytes)) (take n x))
    (take_rest bytes at)
    ∙ lines_same bytes last.start last.end at k n f g refl))

-- the last line with its newline, as a slice shows it
pub whole_line : (bytes : List ℕ) (last : LastLine) → FirstFrom bytes newline last.start last.end
    → take (last.end + 1 - last.start) (take (length bytes - last.start) (drop last.start bytes))
    ≡ line_at bytes last.start last.end ++ newline ∷ []
whole_line bytes last f = ap (take (last.end + 1 - last.start)) (take_rest bytes last.start)
    ∙ with_newline bytes last.start last.end f

-- what is put together, if the run is over or not
pub text_after : (b : Bool) (end to after : ℕ) (new old text : List ℕ) → end ≡ cond b to after
    → take after new ≡ take to old ++ text → take to new ≡ take to old
    → take end new ≡ take to old ++ cond b [] text
text_after true end to after new old text e made kept = ap (λ (k : ℕ). take k new) e
    ∙ (kept ∙ sym (append-nil (take to old)))
text_after false end to after new old text e made kept = ap (λ (k : ℕ). take k new) e ∙ made
