-- Filters that make a line of each line.
use Rattle.std.proofs.Common.{◌≡◌, ℕ, zero, suc, ◌+◌, ◌≤◌, Bool, true, false, cond, not, eqb, ◌&&◌}
use Rattle.std.proofs.Common.{List, [], ◌∷◌, ◌++◌, None, map, get_or, length, drop}
use Rattle.std.proofs.Common.{refl, ap, ◌∙◌, sym, subst, arith, inl, inr}
use Rattle.std.specs.Prelude.{◌⊎◌, ◌||◌}
use Rattle.std.specs.List.{All, concat, count_by, enumerate_from, filter, flat_map}
use Rattle.std.specs.List.{join_with_byte, onto_first}
use Rattle.std.proofs.lemmas.Bool.{and_parts, eqb-true, false≢true, not-true}
use Rattle.std.proofs.lemmas.Bool.{true≢false}
use Rattle.std.proofs.lemmas.List.{append-nil, drop_all}
use Rattle.std.proofs.lemmas.List.Elements.{All-append, All-cons, All-filter, All-head, All-map}
use Rattle.std.proofs.lemmas.List.Elements.{All-nil, All-tail}
use Rattle.machine.specs.Lines.{AreLines, content, HasNoNewline, IsIncompleteLine, IsLine, led, lines}
use Rattle.machine.specs.Lines.{newline}
use Rattle.machine.proofs.LinesLaws.{concat-lines, content-whole, lines-open}
use Rattle.machine.proofs.LinesLaws.{lines-whole}
use Rattle.commands.specs.Cut.{cut_content, fields, has_byte}
use Rattle.commands.specs.Selections.{is_selected, selected, selected_from}
use Rattle.commands.specs.declared.cut_words.CutSpec.{CutSpec}
use Rattle.commands.specs.declared.cut_words.Parts.{Parts}
use Rattle.commands.specs.declared.cut_words.Parts.TheVariants.{Bytes, Fields}
use Rattle.commands.specs.declared.spec.FilterSpec.{FilterSpec}
use Rattle.commands.specs.declared.spec.FilterSpec.TheVariants as spec
use Rattle.tr_words.specs.Tr.{in_set, squeezed, translated}
use Rattle.tr_words.specs.declared.tr_words.TrSpec.{TrSpec}
use Rattle.part_laws.specs.Laws.{LinesAreMadeOfLines}
use Rattle.part_laws.specs.Manners.{GoesByLines, KeepsLines, made_of, MakesLineOfLine}
use Rattle.part_laws.specs.Parts.{IsWholeLines, lines_after}
use Rattle.part_laws.specs.Utilities.{cut_makes_line_of_line, deletes_newline, newline_becomes}
use Rattle.part_laws.specs.Utilities.{one_becomes_newline, tr_makes_line_of_line}
use Rattle.part_laws.proofs.lemmas.CountLaws.{KeepsNewlines}
use Rattle.part_laws.proofs.lemmas.CutLines.{are_lines, line_is_whole}
use Rattle.part_laws.proofs.lemmas.Entries.{is_newline, one_place}
use Rattle.part_laws.proofs.lemmas.LineLaws.{cut_by_lines, cut_keeps_lines, cut_plain}
use Rattle.part_laws.proofs.lemmas.OnceMore.{all_squeezed}
use Rattle.part_laws.proofs.lemmas.SqueezeLaws.{KeepsApart, tr_by_lines, tr_plain}
use Rattle.part_laws.proofs.lemmas.TrManner.{apart_keeps_lines, line_made}

-- ---- one line at a time

-- it makes a line of each whole line, and at most one of an incomplete line
record OneByOne (f : FilterSpec) : Type 0 where
  by_lines : GoesByLines f
  nothing : made_of f [] ≡ []
  line : (l : List ℕ) → IsLine l → IsLine (made_of f l)
  rest : (l : List ℕ) → HasNoNewline l → length (lines (made_of f l)) ≤ 1

-- a line alone is the only one
only_line : (l : List ℕ) → IsLine l → length (lines l) ≤ 1
only_line l w =
    let e : length (lines l) ≡ 1 = ap (λ (x : List ℕ). length (lines x)) (sym (append-nil l))
    ∙ ap length (lines-whole l [] w) in
    omega (arith, e)

-- at most one line is made of a line
one_at_most : (f : FilterSpec) → OneByOne f → (l : List ℕ) → IsLine l ⊎ IsIncompleteLine l
    → length (lines (made_of f l)) ≤ 1
one_at_most f o l (inl w) = only_line (made_of f l) (o.line l w)
one_at_most f o l (inr w) = o.rest l w.1

-- nothing is left after the only line
none_after : (n : ℕ) (ls : List (List ℕ)) → length ls ≤ 1 → concat (drop (suc n) ls) ≡ []
none_after n ls h = ap concat (drop_all (suc n) ls (omega (arith, h)))

drop_none : (n : ℕ) → drop {A = List ℕ} n [] ≡ []
drop_none n = drop_all n [] (omega arith)

after_of : (f : FilterSpec) → OneByOne f → (n : ℕ) (ls : List (List ℕ)) → AreLines ls
    → made_of f (concat (drop n ls)) ≡ concat (drop n (lines (made_of f (concat ls))))
after_of f o zero ls a = sym (concat-lines (made_of f (concat ls)))
after_of f o (suc n) [] a =
    o.nothing ∙ sym (ap (λ (x : List ℕ). concat (drop (suc n) (lines x))) o.nothing)
after_of f o (suc n) (l ∷ []) a =
    ap (λ (ls : List (List ℕ)). made_of f (concat ls)) (drop_none n)
    ∙ (o.nothing
    ∙ sym (ap (λ (x : List ℕ). concat (drop (suc n) (lines (made_of f x)))) (append-nil l)
    ∙ none_after n (lines (made_of f l)) (one_at_most f o l a)))
after_of f o (suc n) (l ∷ m ∷ ls) a =
    let later = made_of f (concat (m ∷ ls)) in
    after_of f o n (m ∷ ls) a.1
    ∙ sym (ap (λ (x : List ℕ). concat (drop (suc n) (lines x)))
    (o.by_lines l (concat (m ∷ ls)) (line_is_whole l a.0))
    ∙ ap (λ (ms : List (List ℕ)). concat (drop (suc n) ms))
    (lines-whole (made_of f l) later (o.line l a.0)))

makes_lines : (f : FilterSpec) → OneByOne f → KeepsLines f → MakesLineOfLine f
makes_lines f o keeps = record {
  by_lines = o.by_lines;
  after = λ n x. after_of f o n (lines x) (are_lines x)
      ∙ ap (λ (y : List ℕ). lines_after n (made_of f y)) (concat-lines x);
  keeps = keeps;
}

-- an incomplete line is at most one line
led_once : (xs : List ℕ) → length (led xs []) ≤ 1
led_once [] = omega arith
led_once (x ∷ xs) = omega arith

open_once : (xs : List ℕ) → HasNoNewline xs → length (lines xs) ≤ 1
open_once xs h =
    let e : lines xs ≡ led xs [] = ap lines (sym (append-nil xs)) ∙ lines-open xs [] h in
    subst (λ (ls : List (List ℕ)). length ls ≤ 1) (sym e) (led_once xs)

-- ---- cat and tee

same_line : (x : List ℕ) → IsLine x → IsLine (x ++ [])
same_line x w = subst IsLine (sym (append-nil x)) w

same_whole : (x : List ℕ) → IsWholeLines x → IsWholeLines (x ++ [])
same_whole x w = subst IsWholeLines (sym (append-nil x)) w

copies : (f : FilterSpec) → ((x : List ℕ) → made_of f x ≡ x ++ []) → OneByOne f
copies f same = record {
  by_lines = λ x y w. same (x ++ y) ∙ (append-nil (x ++ y)
      ∙ (ap (λ (z : List ℕ). z ++ y) (sym (same x ∙ append-nil x))
      ∙ ap (λ (z : List ℕ). made_of f x ++ z) (sym (same y ∙ append-nil y))));
  nothing = same [];
  line = λ l w. subst IsLine (sym (same l)) (same_line l w);
  rest = λ l h. subst (λ (z : List ℕ). length (lines z) ≤ 1) (sym (same l ∙ append-nil l))
      (open_once l h);
}

copying_makes_lines : (f : FilterSpec) → ((x : List ℕ) → made_of f x ≡ x ++ []) → MakesLineOfLine f
copying_makes_lines f same = makes_lines f (copies f same)
    (λ x w. subst IsWholeLines (sym (same x)) (same_whole x w))

-- ---- tr

translated_other : (s : TrSpec) → KeepsNewlines s → (x : List ℕ) → HasNoNewline x
    → HasNoNewline (translated s x)
translated_other s k x h =
    let P : ℕ → Type 0 = λ (b : ℕ). is_newline b ≡ false in
    let kept = filter (λ (b : ℕ). not (in_set s.deleted b)) x in
    let others : All P kept = All-filter (λ (b : ℕ). not (in_set s.deleted b)) P x h in
    All-map P (λ (b : ℕ). get_or s.table b 0) kept
    (λ i d lt. k.others (get_or kept i d) (others i d lt))

becomes_by : (b : Bool) (s : TrSpec) → get_or s.table newline 0 ≡ newline
    → one_becomes_newline s ≡ true → (c : ℕ) → is_newline c ≡ false
    → is_newline (get_or s.table c 0) ≡ b → is_newline (get_or s.table c 0) ≡ false
becomes_by true s so one c other e =
    let place : c ≡ newline = one_place s.table c newline
    (eqb-true (count_by is_newline s.table) 1 one) (eqb-true (get_or s.table c 0) newline e) so in
    absurd (true≢false (sym (ap is_newline place) ∙ other))
becomes_by false s so one c other e = e

module _ (s : TrSpec) (h : tr_makes_line_of_line s ≡ true) where
  abbrev stays : Bool
  stays = not (deletes_newline s)

  abbrev same : Bool
  same = eqb (newline_becomes s) newline

  abbrev lone : Bool
  lone = one_becomes_newline s

  abbrev unsqueezed : Bool
  unsqueezed = not (in_set s.squeezed newline)

  tests : (stays ≡ true) × (same ≡ true) × (lone ≡ true) × (unsqueezed ≡ true)
  tests =
      let last = and_parts (stays && same && lone) unsqueezed h in
      let third = and_parts (stays && same) lone last.0 in
      let second = and_parts stays same third.0 in
      (second.0, second.1, third.1, last.1)

  becomes_itself : newline_becomes s ≡ newline
  becomes_itself = eqb-true (newline_becomes s) newline tests.1

  keeps : KeepsNewlines s
  keeps = record {
    stays_in = not-true (deletes_newline s) tests.0;
    stays_so = becomes_itself;
    others = λ c other. becomes_by (is_newline (get_or s.table c 0)) s becomes_itself tests.2 c other
        refl;
  }

  apart : KeepsApart s
  apart = record {
    stays_in = not-true (deletes_newline s) tests.0;
    is_other = ap (in_set s.squeezed) becomes_itself ∙ not-true (in_set s.squeezed newline) tests.3;
  }

  other_made : (x : List ℕ) → HasNoNewline x → HasNoNewline (squeezed s.squeezed None (translated s x))
  other_made x n = all_squeezed (λ (b : ℕ). is_newline b ≡ false) s.squeezed None (translated s x)
      (translated_other s keeps x n)

  tr_one_by_one : OneByOne (spec.Tr s)
  tr_one_by_one = record {
    by_lines = tr_by_lines s apart;
    nothing = tr_plain s [];
    line = λ l w. (
      squeezed s.squeezed None (translated s w.0),
      other_made w.0 w.1,
      ap (made_of (spec.Tr s)) w.2 ∙ line_made s apart becomes_itself w.0,
    );
    rest = λ l n. subst (λ (z : List ℕ). length (lines z) ≤ 1) (sym (tr_plain s l))
        (open_once (squeezed s.squeezed None (translated s l)) (other_made l n));
  }

  pub tr_makes_lines : MakesLineOfLine (spec.Tr s)
  tr_makes_lines = makes_lines (spec.Tr s) tr_one_by_one (apart_keeps_lines s apart becomes_itself)

-- ---- cut

abbrev NotNewline : ℕ → Type 0
NotNewline b = is_newline b ≡ false

selected_by : {X : Type 0} (b : Bool) (P : X → Type 0) (p : ℕ × X) (ps : List (ℕ × X)) → P p.1
    → All P (map (λ (q : ℕ × X). q.1) ps)
    → All P (map (λ (q : ℕ × X). q.1) (cond b (p ∷ ps) ps))
selected_by true P p ps h later = All-cons P p.1 (map (λ q. q.1) ps) h later
selected_by false P p ps h later = later

-- the selected ones of members that have a property have it
all_selected : {X : Type 0} (P : X → Type 0) (selects : ℕ → Bool) (n : ℕ) (xs : List X) → All P xs
    → All P (selected_from selects n xs)
all_selected P selects n [] h = All-nil P
all_selected P selects n (x ∷ xs) h =
    selected_by (selects n) P (n, x)
    (filter (λ p. selects p.0) (enumerate_from (n + 1) xs)) (All-head P x xs h)
    (all_selected P selects (n + 1) xs (All-tail P x xs h))

onto_clean : (x : ℕ) (parts : List (List ℕ)) → NotNewline x → All HasNoNewline parts
    → All HasNoNewline (onto_first x parts)
onto_clean x [] h later =
    All-cons HasNoNewline (x ∷ []) [] (All-cons NotNewline x [] h (All-nil NotNewline)) later
onto_clean x (part ∷ parts) h later =
    All-cons HasNoNewline (x ∷ part) parts
    (All-cons NotNewline x part h (All-head HasNoNewline part parts later))
    (All-tail HasNoNewline part parts later)

split_by : (b : Bool) (x : ℕ) (parts : List (List ℕ)) → NotNewline x → All HasNoNewline parts
    → All HasNoNewline (cond b ([] ∷ parts) (onto_first x parts))
split_by true x parts h later = All-cons HasNoNewline [] parts (All-nil NotNewline) later
split_by false x parts h later = onto_clean x parts h later

-- fields of what has no newline have none
fields_clean : (d : ℕ) (xs : List ℕ) → HasNoNewline xs → All HasNoNewline (fields d xs)
fields_clean d [] h =
    All-cons HasNoNewline [] [] (All-nil NotNewline) (All-nil HasNoNewline)
fields_clean d (x ∷ xs) h =
    split_by (eqb x d) x (fields d xs) (All-head NotNewline x xs h)
    (fields_clean d xs (All-tail NotNewline x xs h))

join_clean : (d : ℕ) (parts : List (List ℕ)) → NotNewline d → All HasNoNewline parts
    → HasNoNewline (join_with_byte d parts)
join_clean d [] n h = All-nil NotNewline
join_clean d (x ∷ []) n h = All-head HasNoNewline x [] h
join_clean d (x ∷ y ∷ xs) n h =
    All-append NotNewline x (d ∷ join_with_byte d (y ∷ xs))
    (All-head HasNoNewline x (y ∷ xs) h)
    (All-cons NotNewline d (join_with_byte d (y ∷ xs)) n
    (join_clean d (y ∷ xs) n (All-tail HasNoNewline x (y ∷ xs) h)))

delimiter_by : (b : Bool) (d x : ℕ) (xs : List ℕ) → eqb x d ≡ b → (b || has_byte d xs) ≡ true
    → HasNoNewline (x ∷ xs) → (has_byte d xs ≡ true → NotNewline d) → NotNewline d
delimiter_by true d x xs e has h later =
    ap is_newline (sym (eqb-true x d e)) ∙ All-head NotNewline x xs h
delimiter_by false d x xs e has h later = later has

-- a delimiter that is there is no newline
delimiter_clean : (d : ℕ) (xs : List ℕ) → has_byte d xs ≡ true → HasNoNewline xs → NotNewline d
delimiter_clean d [] has h = absurd (false≢true has)
delimiter_clean d (x ∷ xs) has h =
    delimiter_by (eqb x d) d x xs refl has h
    (λ later. delimiter_clean d xs later (All-tail NotNewline x xs h))

fields_by : (b : Bool) (selects : ℕ → Bool) (d : ℕ) (c : List ℕ) → has_byte d c ≡ b
    → HasNoNewline c
    → IsLine (cond b (join_with_byte d (selected selects (fields d c)) ++ newline ∷ [])
    (c ++ newline ∷ []))
fields_by true selects d c e h = (
  join_with_byte d (selected selects (fields d c)),
  join_clean d (selected selects (fields d c)) (delimiter_clean d c e h)
      (all_selected HasNoNewline selects 1 (fields d c) (fields_clean d c h)),
  refl,
)
fields_by false selects d c e h = (c, h, refl)

whole_by : (only : Bool) (selects : ℕ → Bool) (d : ℕ) (c : List ℕ) → not only ≡ true
    → HasNoNewline c → IsLine (cut_content selects (Fields d only) c)
whole_by true selects d c t h = absurd (false≢true t)
whole_by false selects d c t h = fields_by (has_byte d c) selects d c refl h

-- what cut writes of a content is a line, unless it leaves out lines
cut_line_is : (parts : Parts) (selects : ℕ → Bool) (c : List ℕ)
    → cut_makes_line_of_line parts ≡ true → HasNoNewline c
    → IsLine (cut_content selects parts c)
cut_line_is Bytes selects c t h =
    (selected selects c, all_selected NotNewline selects 1 c h, refl)
cut_line_is (Fields d only) selects c t h = whole_by only selects d c t h

-- the content of an incomplete line
content_open : (l : List ℕ) → HasNoNewline l → content l ≡ l
content_open [] h = refl
content_open (x ∷ []) h = ap (λ (b : Bool). cond b [] (x ∷ [])) (All-head NotNewline x [] h)
content_open (x ∷ y ∷ ys) h =
    ap (λ (zs : List ℕ). x ∷ zs) (content_open (y ∷ ys) (All-tail NotNewline x (y ∷ ys) h))

module _ (s : CutSpec) (t : cut_makes_line_of_line s.parts ≡ true) where
  abbrev of_content : List ℕ → List ℕ
  of_content c = cut_content (is_selected s.ranges) s.parts c

  -- what is made of a stream of one line
  made_of_one : (l : List ℕ) → lines l ≡ l ∷ [] → made_of (spec.Cut s) l ≡ of_content (content l)
  made_of_one l e = cut_plain s l
      ∙ (ap (flat_map (λ (k : List ℕ). of_content (content k))) e ∙ append-nil (of_content (content l)))

  line_cut : (l : List ℕ) → IsLine l → IsLine (made_of (spec.Cut s) l)
  line_cut l w =
      let one : lines l ≡ l ∷ [] = ap lines (sym (append-nil l)) ∙ lines-whole l [] w in
      let inner : content l ≡ w.0 = ap content w.2 ∙ content-whole w.0 in
      subst IsLine (sym (made_of_one l one ∙ ap of_content inner))
      (cut_line_is s.parts (is_selected s.ranges) w.0 t w.1)

  rest_cut : (l : List ℕ) → HasNoNewline l → length (lines (made_of (spec.Cut s) l)) ≤ 1
  rest_cut [] h = omega (arith, ap (λ (x : List ℕ). length (lines x)) (cut_plain s []))
  rest_cut (x ∷ xs) h =
      let l = x ∷ xs in
      let one : lines l ≡ l ∷ [] = ap lines (sym (append-nil l)) ∙ lines-open l [] h in
      only_line (made_of (spec.Cut s) l)
      (subst IsLine (sym (made_of_one l one ∙ ap of_content (content_open l h)))
      (cut_line_is s.parts (is_selected s.ranges) l t h))

  pub cut_makes_lines : MakesLineOfLine (spec.Cut s)
  cut_makes_lines = makes_lines (spec.Cut s)
      (record {
        by_lines = cut_by_lines s;
        nothing = cut_plain s [];
        line = line_cut;
        rest = rest_cut;
      })
      (cut_keeps_lines s)

-- ---- all filters

-- filters that are said to make a line of each line do so
pub lines_of_lines : LinesAreMadeOfLines
lines_of_lines (spec.Cat s) h = copying_makes_lines (spec.Cat s) (λ x. refl)
lines_of_lines (spec.Cut s) h = cut_makes_lines s h
lines_of_lines (spec.Fold s) h = absurd (false≢true h)
lines_of_lines (spec.Head s) h = absurd (false≢true h)
lines_of_lines (spec.Paste s) h = absurd (false≢true h)
lines_of_lines (spec.Tail s) h = absurd (false≢true h)
lines_of_lines (spec.Tee s) h = copying_makes_lines (spec.Tee s) (λ x. refl)
lines_of_lines (spec.Tr s) h = tr_makes_lines s h
lines_of_lines (spec.Uniq s) h = absurd (false≢true h)
lines_of_lines (spec.Wc s) h = absurd (false≢true h)
