-- The lines of wc, as pieces come and inputs end.
use Rattle.std.proofs.Common.{◌≡◌, ℕ, ◌+◌, ◌^◌, ◌≤◌, List, [], ◌∷◌, ◌++◌, Bool, true, false, cond}
use Rattle.std.proofs.Common.{max, length, Option, Some, None, refl, ap, ◌∙◌, sym, subst, arith}
use Rattle.std.proofs.Common.{length-append}
use Rattle.std.specs.Prelude.{count_by, ◌==◌, codes, slice_get}
use Rattle.std.specs.List.{enumerate_from, flat_map, fold, sum_by}
use Rattle.std.proofs.lemmas.List.{append-nil}
use Rattle.std.proofs.lemmas.Bool.{eqb-true}
use Rattle.std.proofs.lemmas.List.Sums.{fold-append, sum_by-cons, sum_by-append}
use Rattle.machine.specs.Lines.{newline}
use Rattle.machine.specs.Whole.{present}
use Rattle.commands.specs.declared.wc_counts.Counts.{Counts}
use Rattle.commands.specs.declared.wc_words.WcSpec.{WcSpec}
use Rattle.commands.specs.Wc.{Tally, asked, counted_after, counts_of, greatest, has_total, nothing}
use Rattle.commands.specs.Wc.{numbers, sums, tallies, tally_of, total_of, words_after}
use Rattle.byte_filters.specs.WcSteps.{Agree, IsTooMany, added, closing, ends_in_word, more_if}
use Rattle.byte_filters.specs.WcSteps.{plus, sums_after, with_sums}
use Rattle.byte_filters.specs.WcShows.{tallies_after, tallies_from}
use Rattle.byte_filters.proofs.lemmas.CountLaws.{words-append}

abbrev pub all_numbers : List Tally → List ℕ
all_numbers ts = flat_map (λ (t : Tally). t.1) ts

-- ---- counts that agree where they are asked for

asked_same : (w : Bool) (x y : ℕ) → (w ≡ true → x ≡ y) → asked w x ≡ asked w y
asked_same true x y h = ap (λ (n : ℕ). n ∷ []) (h refl)
asked_same false x y h = refl

pub agree_numbers : (spec : WcSpec) (a b : Counts) → Agree spec a b
    → numbers spec a ≡ numbers spec b
agree_numbers spec a b g =
    ap (λ (x : List ℕ). x ++ (asked spec.words a.words ++ asked spec.bytes a.bytes))
    (asked_same spec.lines a.lines b.lines g.lines)
    ∙ (ap (λ (x : List ℕ). asked spec.lines b.lines ++ (x ++ asked spec.bytes a.bytes))
    (asked_same spec.words a.words b.words g.words)
    ∙ ap (λ (x : List ℕ). asked spec.lines b.lines ++ (asked spec.words b.words ++ x))
    (asked_same spec.bytes a.bytes b.bytes g.bytes))

more_same : (w : Bool) (s x y : ℕ) → (w ≡ true → x ≡ y) → more_if w s x ≡ more_if w s y
more_same true s x y h = ap (λ (n : ℕ). s + n) (h refl)
more_same false s x y h = refl

agree_added : (spec : WcSpec) (s a b : Counts) → Agree spec a b → added spec s a ≡ added spec s b
agree_added spec s a b g =
    ap (λ (x : ℕ). record {
      lines = x;
      words = more_if spec.words s.words a.words;
      bytes =
          more_if spec.bytes s.bytes a.bytes;
    }) (more_same spec.lines s.lines a.lines b.lines g.lines)
    ∙ (ap (λ (x : ℕ). record {
      lines = more_if spec.lines s.lines b.lines;
      words = x;
      bytes =
          more_if spec.bytes s.bytes a.bytes;
    }) (more_same spec.words s.words a.words b.words g.words)
    ∙ ap (λ (x : ℕ). record {
      lines = more_if spec.lines s.lines b.lines;
      words =
          more_if spec.words s.words b.words;
      bytes = x;
    })
    (more_same spec.bytes s.bytes a.bytes b.bytes g.bytes))

agree_sums : (spec : WcSpec) (s a b : Counts) → Agree spec a b
    → with_sums spec s a ≡ with_sums spec s b
agree_sums spec s a b g = ap (λ (x : Counts). cond (has_total spec) x s) (agree_added spec s a b g)

more_asked : (w : Bool) (a b : ℕ) → w ≡ true → more_if w a b ≡ a + b
more_asked true a b h = refl
more_asked false a b h = absurd (cc)

added_plus : (spec : WcSpec) (a b : Counts) → Agree spec (added spec a b) (plus a b)
added_plus spec a b =
    record {
      lines = more_asked spec.lines a.lines b.lines;
      words = more_asked spec.words a.words b.words;
      bytes = more_asked spec.bytes a.bytes b.bytes;
    }

-- ---- a new machine

plus_nothing : (s : Counts) → s ≡ plus s nothing
plus_nothing s =
    let l : s.lines ≡ s.lines + 0 = omega arith in
    let w : s.words ≡ s.words + 0 = omega arith in
    let b : s.bytes ≡ s.bytes + 0 = omega arith in
    ap (λ (x : ℕ). record { lines = x; words = s.words; bytes = s.bytes }) l
    ∙ (ap (λ (x : ℕ). record { lines = s.lines + 0; words = x; bytes = s.bytes }) w
    ∙ ap (λ (x : ℕ). record { lines = s.lines + 0; words = s.words + 0; bytes = x }) b)

sums_first : (xs : List ℕ) (ins : List (Option (List ℕ)))
    → sums (Some xs ∷ ins) ≡ plus (counts_of xs) (sums ins)
sums_first xs ins =
    let c = counts_of xs in
    ap (λ (x : ℕ). record {
      lines = x;
      words =
          sum_by (λ xs. (counts_of xs).words) (xs ∷ present ins);
      bytes =
          sum_by (λ xs. (counts_of xs).bytes) (xs ∷ present ins);
    })
    (sum_by-cons (λ (xs : List ℕ). (counts_of xs).lines) xs (present ins))
    ∙ (ap (λ (x : ℕ). record {
      lines = c.lines + (sums ins).lines;
      words = x;
      bytes =
          sum_by (λ xs. (counts_of xs).bytes) (xs ∷ present ins);
    })
    (sum_by-cons (λ (xs : List ℕ). (counts_of xs).words) xs (present ins))
    ∙ ap (λ (x : ℕ). record {
      lines = c.lines + (sums ins).lines;
      words =
          c.words + (sums ins).words;
      bytes = x;
    })
    (sum_by-cons (λ (xs : List ℕ). (counts_of xs).bytes) xs (present ins)))

moved : (w : Bool) (a b t : ℕ) → w ≡ true → more_if w a b + t ≡ a + (b + t)
moved true a b t h = omega arith
moved false a b t h = absurd (cc)

agree_moved : (spec : WcSpec) (s c t : Counts)
    → Agree spec (plus (added spec s c) t) (plus s (plus c t))
agree_moved spec s c t =
    record {
      lines = moved spec.lines s.lines c.lines t.lines;
      words = moved spec.words s.words c.words t.words;
      bytes = moved spec.bytes s.bytes c.bytes t.bytes;
    }

abbrev total_line : List ℕ → List Tally
total_line ns = (Some (codes "total"), ns) ∷ []

total_moved_by : (h : Bool) (spec : WcSpec) (s c t : Counts)
    → cond h (total_line (numbers spec (plus (cond h (added spec s c) s) t))) []
    ≡ cond h (total_line (numbers spec (plus s (plus c t)))) []
total_moved_by true spec s c t =
    ap total_line (agree_numbers spec (plus (added spec s c) t) (plus s (plus c t))
    (agree_moved spec s c t))
total_moved_by false spec s c t = refl

total_moved : (spec : WcSpec) (s c t : Counts)
    → total_of spec (plus (with_sums spec s c) t) ≡ total_of spec (plus s (plus c t))
total_moved spec s c t = total_moved_by (has_total spec) spec s c t

-- the lines from an input on, in terms of whole lists
tallies_are : (spec : WcSpec) (i : ℕ) (s : Counts) (ins : List (Option (List ℕ)))
    → tallies_from spec i s ins ≡ flat_map (tally_of spec) (enumerate_from i ins) ++ total_of spec
    (plus s (sums ins))
tallies_are spec i s [] = ap (total_of spec) (plus_nothing s)
tallies_are spec i s (None ∷ ins) = tallies_are spec (i + 1) s ins
tallies_are spec i s (Some xs ∷ ins) =
    let c = counts_of xs in
    let t : Tally = (slice_get spec.operands i, numbers spec c) in
    ap (λ (ts : List Tally). t ∷ ts) (tallies_are spec (i + 1) (with_sums spec s c) ins
    ∙ ap (λ (ts : List Tally). flat_map (tally_of spec) (enumerate_from (i + 1) ins) ++ ts)
    (total_moved spec s c (sums ins)
    ∙ ap (λ (x : Counts). total_of spec (plus s x)) (sym (sums_first xs ins))))

none_before : (c : Counts) → plus nothing c ≡ c
none_before c =
    let l : 0 + c.lines ≡ c.lines = omega arith in
    let w : 0 + c.words ≡ c.words = omega arith in
    let b : 0 + c.bytes ≡ c.bytes = omega arith in
    ap (λ (x : ℕ). record { lines = x; words = 0 + c.words; bytes = 0 + c.bytes }) l
    ∙ (ap (λ (x : ℕ). record { lines = c.lines; words = x; bytes = 0 + c.bytes }) w
    ∙ ap (λ (x : ℕ). record { lines = c.lines; words = c.words; bytes = x }) b)

begun : (spec : WcSpec) (i : ℕ) (s : Counts) (ins : List (Option (List ℕ))) → 1 ≤ length ins
    → tallies_after spec i s nothing false ins ≡ tallies_from spec i s ins
begun spec i s [] h = absurd (omega arith)
begun spec i s (None ∷ ins) h = refl
begun spec i s (Some xs ∷ ins) h = refl

pub tallies_new : (spec : WcSpec) (ins : List (Option (List ℕ))) → 1 ≤ length ins
    → tallies_after spec 0 nothing nothing false ins ≡ tallies spec ins
tallies_new spec ins h =
    begun spec 0 nothing ins h
    ∙ (tallies_are spec 0 nothing ins
    ∙ ap (λ (c : Counts). flat_map (tally_of spec) (enumerate_from 0 ins) ++ total_of spec c)
    (none_before (sums ins)))

-- ---- a piece

-- what was counted of a piece, and whether it ended in a word
pub record HasCounted (spec : WcSpec) (before after : Bool) (counts : Counts) (piece : List ℕ) :
    Type 0 where
  pub agree : Agree spec counts (counted_after nothing before piece)
  pub last : spec.words ≡ true → after ≡ ends_in_word before piece

fed_by : (w : Bool) (c r p y whole : ℕ) → w ≡ true → (w ≡ true → r ≡ 0 + p) → whole ≡ p + y
    → c + whole ≡ more_if w c r + y
fed_by true c r p y whole h e f = let g = e h in omega arith
fed_by false c r p y whole h e f = absurd (cc)

pub fed_agrees : (spec : WcSpec) (c r : Counts) (before after : Bool) (piece ys : List ℕ)
    → HasCounted spec before after r piece
    → Agree spec (counted_after c before (piece ++ ys)) (counted_after (added spec c r) after ys)
fed_agrees spec c r before after piece ys h =
    record {
      lines = λ e. fed_by spec.lines c.lines r.lines (count_by (λ x. x == newline) piece)
          (count_by (λ x. x == newline) ys)
          (count_by (λ x. x == newline) (piece ++ ys)) e h.agree.lines
          (sum_by-append (λ (x : ℕ). cond (x == newline) 1 0) piece ys);
      words = λ e. fed_by spec.words c.words r.words (words_after before piece)
          (words_after after ys) (words_after before (piece ++ ys)) e h.agree.words
          (words-append before piece ys
          ∙ ap (λ (b : Bool). words_after before piece + words_after b ys) (sym (h.last e)));
      bytes = λ e. fed_by spec.bytes c.bytes r.bytes (length piece) (length ys)
          (length (piece ++ ys)) e h.agree.bytes (length-append piece ys);
    }

pub tallies_fed : (spec : WcSpec) (i : ℕ) (s c r : Counts) (before after : Bool) (piece ys : List ℕ)
    (ins : List (Option (List ℕ))) → HasCounted spec before after r piece
    → tallies_after spec i s c before (Some (piece ++ ys) ∷ ins)
    ≡ tallies_after spec i s (added spec c r) after (Some ys ∷ ins)
tallies_fed spec i s c r before after piece ys ins h =
    let x = counted_after c before (piece ++ ys) in
    let y = counted_after (added spec c r) after ys in
    let g = fed_agrees spec c r before after piece ys h in
    ap (λ (ns : List ℕ). (slice_get spec.operands i, ns) ∷ tallies_from spec (i + 1)
    (with_sums spec s x) ins) (agree_numbers spec x y g)
    ∙ ap (λ (z : Counts). (slice_get spec.operands i, numbers spec y) ∷ tallies_from spec
    (i + 1) z ins) (agree_sums spec s x y g)

-- ---- the greatest number

grows : (a : ℕ) (ns : List ℕ) → a ≤ fold max a ns
grows a [] = omega arith
grows a (n ∷ ns) = let h = grows (max a n) ns in omega arith

higher : (a b : ℕ) (ns : List ℕ) → a ≤ b → fold max a ns ≤ fold max b ns
higher a b [] h = h
higher a b (n ∷ ns) h = higher (max a n) (max b n) ns (omega arith)

pub greatest-front : (xs ys : List ℕ) → greatest xs ≤ greatest (xs ++ ys)
greatest-front xs ys =
    let e = fold-append max 0 xs ys in
    let h = grows (greatest xs) ys in
    omega arith

pub greatest-back : (xs ys : List ℕ) → greatest ys ≤ greatest (xs ++ ys)
greatest-back xs ys =
    let e = fold-append max 0 xs ys in
    let h = higher 0 (greatest xs) ys (omega arith) in
    omega arith

numbers_grow_by : (l w b : Bool) (a₁ a₂ a₃ b₁ b₂ b₃ : ℕ) → (l ≡ true → a₁ ≤ b₁)
    → (w ≡ true → a₂ ≤ b₂) → (b ≡ true → a₃ ≤ b₃)
    → greatest (asked l a₁ ++ (asked w a₂ ++ asked b a₃)) ≤ greatest
    (asked l b₁ ++ (asked w b₂ ++ asked b b₃))
numbers_grow_by true true true a₁ a₂ a₃ b₁ b₂ b₃ f g h =
    let p = f refl in
    let q = g refl in
    let r = h refl in
    omega arith
numbers_grow_by true true false a₁ a₂ a₃ b₁ b₂ b₃ f g h =
    let p = f refl in
    let q = g refl in
    omega arith
numbers_grow_by true false true a₁ a₂ a₃ b₁ b₂ b₃ f g h =
    let p = f refl in
    let r = h refl in
    omega arith
numbers_grow_by true false false a₁ a₂ a₃ b₁ b₂ b₃ f g h = let p = f refl in omega arith
numbers_grow_by false true true a₁ a₂ a₃ b₁ b₂ b₃ f g h =
    let q = g refl in
    let r = h refl in
    omega arith
numbers_grow_by false true false a₁ a₂ a₃ b₁ b₂ b₃ f g h = let q = g refl in omega arith
numbers_grow_by false false true a₁ a₂ a₃ b₁ b₂ b₃ f g h = let r = h refl in omega arith
numbers_grow_by false false false a₁ a₂ a₃ b₁ b₂ b₃ f g h = omega arith

-- one has no greater numbers than the other if they are asked for
record NoGreater (spec : WcSpec) (a b : Counts) : Type 0 where
  pub lines : spec.lines ≡ true → a.lines ≤ b.lines
  pub words : spec.words ≡ true → a.words ≤ b.words
  pub bytes : spec.bytes ≡ true → a.bytes ≤ b.bytes

numbers_grow : (spec : WcSpec) (a b : Counts) → NoGreater spec a b
    → greatest (numbers spec a) ≤ greatest (numbers spec b)
numbers_grow spec a b h =
    numbers_grow_by spec.lines spec.words spec.bytes a.lines a.words a.bytes b.lines b.words b.bytes
    h.lines h.words h.bytes

-- a count that is too large makes the line of its input too large, whatever follows
pub fed_too_many : (spec : WcSpec) (i : ℕ) (s c r : Counts) (before after : Bool)
    (piece ys : List ℕ) (ins : List (Option (List ℕ))) → HasCounted spec before after r piece
    → IsTooMany spec (plus c r)
    → 2 ^ 63 ≤ greatest (all_numbers (tallies_after spec i s c before (Some (piece ++ ys) ∷ ins)))
fed_too_many spec i s c r before after piece ys ins h many =
    let x = counted_after c before (piece ++ ys) in
    let g = fed_agrees spec c r before after piece ys h in
    let up = numbers_grow spec (plus c r) x (record {
      lines = λ e. let k = g.lines e in let m = more_asked spec.lines c.lines r.lines e in
          omega arith;
      words = λ e. let k = g.words e in let m = more_asked spec.words c.words r.words e in
          omega arith;
      bytes = λ e. let k = g.bytes e in let m = more_asked spec.bytes c.bytes r.bytes e in
          omega arith;
    }) in
    let f = greatest-front (numbers spec x)
    (all_numbers (tallies_from spec (i + 1) (with_sums spec s x) ins)) in
    omega arith

-- ---- the end of an input

nothing_more : (c : Counts) (before : Bool) → counted_after c before [] ≡ c
nothing_more c before = sym (plus_nothing c)

follows : (last : Bool) (spec : WcSpec) (i : ℕ) (s : Counts) (ins : List (Option (List ℕ)))
    → last ≡ (length ins == 0) → tallies_from spec i s ins
    ≡ cond last (total_of spec s) [] ++ tallies_after spec i s nothing false ins
follows true spec i s [] h = sym (append-nil (total_of spec s))
follows false spec i s [] h = absurd (cc)
follows true spec i s (x ∷ ins) h =
    let e : length (x ∷ ins) ≡ 0 = eqb-true (length (x ∷ ins)) 0 (sym h) in
    absurd (omega arith)
follows false spec i s (None ∷ ins) h = refl
follows false spec i s (Some xs ∷ ins) h = refl

-- the end of an input that is present, and of one that is missing
pub tallies_closed : (spec : WcSpec) (i : ℕ) (s c : Counts) (before last : Bool)
    (ins : List (Option (List ℕ))) → last ≡ (length ins == 0)
    → tallies_after spec i s c before (Some [] ∷ ins)
    ≡ closing spec i true last c (sums_after spec true s c) ++ tallies_after spec (i + 1)
    (sums_after spec true s c) nothing false ins
tallies_closed spec i s c before last ins h =
    ap (λ (x : Counts). (slice_get spec.operands i, numbers spec x) ∷ tallies_from spec (i + 1)
    (with_sums spec s x) ins) (nothing_more c before)
    ∙ ap (λ (ts : List Tally). (slice_get spec.operands i, numbers spec c) ∷ ts)
    (follows last spec (i + 1) (with_sums spec s c) ins h)

pub tallies_skipped : (spec : WcSpec) (i : ℕ) (s c : Counts) (before last : Bool)
    (ins : List (Option (List ℕ))) → last ≡ (length ins == 0)
    → tallies_after spec i s c before (None ∷ ins) ≡ closing spec i false last c
    (sums_after spec false s c) ++ tallies_after spec (i + 1)
    (sums_after spec false s c) nothing false ins
tallies_skipped spec i s c before last ins h = follows last spec (i + 1) s ins h

total_number : (spec : WcSpec) (s : Counts) → has_total spec ≡ true
    → numbers spec s ≡ all_numbers (total_of spec s)
total_number spec s h =
    sym (ap (λ (b : Bool). all_numbers (cond b (total_line (numbers spec s)) [])) h
    ∙ append-nil (numbers spec s))

at_least : (w : Bool) (a b : ℕ) → w ≡ true → a ≤ more_if w a b
at_least true a b h = omega arith
at_least false a b h = absurd (cc)

sums_grow : (spec : WcSpec) (s c : Counts) → has_total spec ≡ true
    → greatest (numbers spec s) ≤ greatest (numbers spec (with_sums spec s c))
sums_grow spec s c h =
    let e : with_sums spec s c ≡ added spec s c = ap (λ (b : Bool). cond b (added spec s c) s) h in
    subst (λ (x : Counts). greatest (numbers spec s) ≤ greatest (numbers spec x)) (sym e)
    (numbers_grow spec s (added spec s c) (record {
      lines = at_least spec.lines s.lines c.lines;
      words = at_least spec.words s.words c.words;
      bytes = at_least spec.bytes s.bytes c.bytes;
    }))

-- the sums so far are no greater than what is written of them at last
total_grows : (spec : WcSpec) (i : ℕ) (s : Counts) (ins : List (Option (List ℕ)))
    → has_total spec ≡ true → greatest (numbers spec s) ≤ greatest
    (all_numbers (tallies_from spec i s ins))
total_grows spec i s [] h = let e = ap greatest (total_number spec s h) in omega arith
total_grows spec i s (None ∷ ins) h = total_grows spec (i + 1) s ins h
total_grows spec i s (Some xs ∷ ins) h =
    let c = counts_of xs in
    let up = sums_grow spec s c h in
    let more = total_grows spec (i + 1) (with_sums spec s c) ins h in
    let back = greatest-back (numbers spec c)
    (all_numbers (tallies_from spec (i + 1) (with_sums spec s c) ins)) in
    omega arith

-- a sum that is too large is so in the line with the sums
pub closed_too_many : (spec : WcSpec) (i : ℕ) (s c : Counts) (before : Bool)
    (ins : List (Option (List ℕ))) → has_total spec ≡ true → IsTooMany spec (plus s c)
    → 2 ^ 63 ≤ greatest (all_numbers (tallies_after spec i s c before (Some [] ∷ ins)))
closed_too_many spec i s c before ins h many =
    let e : with_sums spec s (counted_after c before []) ≡ added spec s c =
    ap (with_sums spec s) (nothing_more c before)
    ∙ ap (λ (b : Bool). cond b (added spec s c) s) h in
    let same = ap greatest (agree_numbers spec (added spec s c) (plus s c) (added_plus spec s c)) in
    let up = total_grows spec (i + 1) (added spec s c) ins h in
    let moved = ap (λ (x : Counts). greatest (all_numbers (tallies_from spec (i + 1) x ins))) e in
    let back = greatest-back (numbers spec (counted_after c before []))
    (all_numbers (tallies_from spec (i + 1)
    (with_sums spec s (counted_after c before [])) ins)) in
    omega arith
