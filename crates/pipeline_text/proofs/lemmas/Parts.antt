-- The parts of a text are what a reader that goes byte by byte makes of it.
use Rattle.std.proofs.Common.{◌≡◌, ℕ, zero, suc, ◌≤◌, Bool, true, false, not, cond, List, [], ◌∷◌}
use Rattle.std.proofs.Common.{◌++◌, length, drop, map, Option, Some, None, inl, inr, ◌&&◌, ◌||◌}
use Rattle.std.proofs.Common.{eqb, refl, sym, ap, ◌∙◌, arith}
use Rattle.std.proofs.lemmas.Bool.{eqb-true}
use Rattle.pipeline_text.specs.ShellBytes.{ends_word, is_special_in_double}
use Rattle.pipeline_text.specs.declared.mark.Mark.{Mark}
use Rattle.pipeline_text.specs.declared.mark.Mark.TheVariants.{Plain, Quoted, Quote}
use Rattle.pipeline_text.specs.declared.moves.Place.{Place}
use Rattle.pipeline_text.specs.declared.moves.Place.TheVariants.{Between, Within, Single, Double}
use Rattle.pipeline_text.specs.declared.moves.Place.TheVariants.{Comment}
use Rattle.pipeline_text.specs.declared.moves.Move.{Move}
use Rattle.pipeline_text.specs.declared.moves.Move.TheVariants.{Gives, Escapes, Skips, Joins}
use Rattle.pipeline_text.specs.declared.moves.Move.TheVariants.{Expands, Breaks}
use Rattle.pipeline_text.specs.inner.Scans.{head, moves, made, marked, with_mark, begins, unquoted}
use Rattle.pipeline_text.specs.inner.Scans.{backslashed}
use Rattle.command_words.specs.Texts.{◌>>=◌}
use Rattle.pipeline_text.specs.Quotes.{until, enclosed, until_double, line_end, backslashed_part}
use Rattle.pipeline_text.specs.Quotes.{quoted_part, part, with_marks, part_then, marks_of_parts}
use Rattle.pipeline_text.specs.Quotes.{has_nul, marks}
use Rattle.pipeline_text.proofs.lemmas.Moved.{cases, marked-cons}

-- no NUL byte
record NoNul (b : ℕ) (x : List ℕ) : Type 0 where
  first : eqb b 0 ≡ false
  rest : has_nul x ≡ false

no_nul : (b : ℕ) (x : List ℕ) → has_nul (b ∷ x) ≡ false → NoNul b x
no_nul b x h = elim (cases (eqb b 0)) [
  | inl e ↦ absurd (let w : has_nul (b ∷ x) ≡ true = rw e refl in cc)
  | inr e ↦ record {
    first = e;
    rest = sym (let w : has_nul (b ∷ x) ≡ has_nul x = rw e refl in w)
        ∙ h;
  }
]

-- what a byte that isn't NUL does
live : (place : Place) (b : ℕ) (x : List ℕ) → eqb b 0 ≡ false
    → marked place (b ∷ x) ≡ made (moves place b (head x)) (λ (q : Place). marked q x)
    (λ (q : Place). marked q (drop 1 x))
live place b x h = marked-cons place b x ∙ rw h refl

-- ---- quotes

with_marks-cons : (m : Mark) (front : List Mark) (ms : Option (List Mark))
    → with_marks (m ∷ front) ms ≡ with_mark m (with_marks front ms)
with_marks-cons m front None = refl
with_marks-cons m front (Some ms) = refl

-- the marks of what quotes enclose, and of what follows them
abbrev closed : Option (List ℕ × List ℕ) → Option (List Mark)
closed o = o >>= λ (p : List ℕ × List ℕ). with_marks (map Quoted p.0 ++ Quote ∷ [])
    (marked Within p.1)

with_one : (m : Mark) (ms : Option (List Mark)) → with_marks (m ∷ []) ms ≡ with_mark m ms
with_one m None = refl
with_one m (Some ms) = refl

closed_more : (b : ℕ) (o : Option (List ℕ × List ℕ))
    → closed (enclosed b o) ≡ with_mark (Quoted b) (closed o)
closed_more b None = refl
closed_more b (Some p) = with_marks-cons (Quoted b) (map Quoted p.0 ++ Quote ∷ [])
    (marked Within p.1)

until_marked : (x : List ℕ) → has_nul x ≡ false → closed (until 39 x) ≡ marked Single x
unfolding marked
until_marked [] h = refl
until_marked (b ∷ x) h =
    let n = no_nul b x h in
    let l = live Single b x n.first in
    elim (cases (eqb b 39)) [
      | inl e ↦ rw l (rw e (with_one Quote (marked Within x)))
      | inr e ↦
          rw l (rw e (closed_more b (until 39 x)
          ∙ ap (with_mark (Quoted b)) (until_marked x n.rest)))
    ]

double_marked : (x : List ℕ) → has_nul x ≡ false → closed (until_double x) ≡ marked Double x
unfolding marked
double_marked [] h = refl
double_marked (b ∷ []) h =
    let n = no_nul b [] h in
    let l = live Double b [] n.first in
    elim (cases (eqb b 34)) [
      | inl e ↦ rw l (rw e refl)
      | inr e ↦ elim (cases (eqb b 36 || eqb b 96)) [
        | inl f ↦ rw l (rw (e, f) refl)
        | inr f ↦ elim (cases (eqb b 92)) [
          | inl g ↦ rw l (rw (e, f, g) refl)
          | inr g ↦ rw l (rw (e, f, g) refl)
        ]
      ]
    ]
double_marked (b ∷ c ∷ x) h =
    let n = no_nul b (c ∷ x) h in
    let k = no_nul c x n.rest in
    let l = live Double b (c ∷ x) n.first in
    elim (cases (eqb b 34)) [
      | inl e ↦ rw l (rw e (with_one Quote (marked Within (c ∷ x))))
      | inr e ↦ elim (cases (eqb b 36 || eqb b 96)) [
        | inl f ↦ rw l (rw (e, f) refl)
        | inr f ↦ elim (cases (eqb b 92)) [
          | inl g ↦ elim (cases (eqb c 10)) [
            | inl i ↦ rw l (rw (e, f, g, i) (double_marked x k.rest))
            | inr i ↦ elim (cases (is_special_in_double c)) [
              | inl j ↦
                  rw l (rw (e, f, g, i, j) (closed_more c (until_double x)
                  ∙ ap (with_mark (Quoted c)) (double_marked x k.rest)))
              | inr j ↦
                  rw l (rw (e, f, g, i, j) (closed_more b (until_double (c ∷ x))
                  ∙ ap (with_mark (Quoted b)) (double_marked (c ∷ x) n.rest)
                  ∙ ap (λ (b : ℕ). with_mark (Quoted b) (marked Double (c ∷ x))) (eqb-true b 92 g)))
            ]
          ]
          | inr g ↦
              rw l (rw (e, f, g) (closed_more b (until_double (c ∷ x))
              ∙ ap (with_mark (Quoted b)) (double_marked (c ∷ x) n.rest)))
        ]
      ]
    ]

-- ---- comments

newline_marked : (b : ℕ) (x : List ℕ) → eqb b 10 ≡ true
    → marked Between (b ∷ x) ≡ with_mark (Plain b) (marked Between x)
newline_marked b x e =
    let k = eqb-true b 10 e in
    ap (λ (b : ℕ). marked Between (b ∷ x)) k ∙ marked-cons Between 10 x
    ∙ ap (λ (b : ℕ). with_mark (Plain b) (marked Between x)) (sym k)

line_marked : (x : List ℕ) → has_nul x ≡ false → marked Between (line_end x) ≡ marked Comment x
unfolding marked
line_marked [] h = refl
line_marked (b ∷ x) h =
    let n = no_nul b x h in
    let l = live Comment b x n.first in
    elim (cases (eqb b 10)) [
      | inl e ↦ rw l (rw e (newline_marked b x e))
      | inr e ↦ rw l (rw e (line_marked x n.rest))
    ]

-- ---- what follows a part is shorter, and has no NUL byte

record Behind (rest x : List ℕ) : Type 0 where
  shorter : length rest ≤ length x
  clean : has_nul rest ≡ false

behind_more : (b : ℕ) (rest x : List ℕ) → Behind rest x → Behind rest (b ∷ x)
behind_more b rest x h = record { shorter = let k = h.shorter in omega arith; clean = h.clean }

second_of : Option (List ℕ × List ℕ) → List ℕ
second_of None = []
second_of (Some q) = q.1

some_is : (a x : List ℕ) (p : List ℕ × List ℕ) → Some (a, x) ≡ Some p → x ≡ p.1
unfolding second_of
some_is a x p e = ap second_of e

enclosed_behind : (b : ℕ) (o : Option (List ℕ × List ℕ)) (x : List ℕ) (p : List ℕ × List ℕ)
    → ((q : List ℕ × List ℕ) → o ≡ Some q → Behind q.1 x) → enclosed b o ≡ Some p
    → Behind p.1 (b ∷ x)
enclosed_behind b None x p f e = absurd cc
enclosed_behind b (Some q) x p f e =
    let r : q.1 ≡ p.1 = some_is (b ∷ q.0) q.1 p e in
    let h = f q refl in
    record {
      shorter = let k = h.shorter in omega (arith, ap length r);
      clean = ap has_nul (sym r)
          ∙ h.clean;
    }

at_quote : (b : ℕ) (a x : List ℕ) (p : List ℕ × List ℕ) → has_nul x ≡ false → Some (a, x) ≡ Some p
    → Behind p.1 (b ∷ x)
at_quote b a x p n e =
    let r = some_is a x p e in
    record { shorter = omega (arith, ap length r); clean = ap has_nul (sym r) ∙ n }

until_behind : (c : ℕ) (x : List ℕ) (p : List ℕ × List ℕ) → has_nul x ≡ false → until c x ≡ Some p
    → Behind p.1 x
until_behind c [] p h e = absurd cc
until_behind c (b ∷ x) p h e =
    let n = no_nul b x h in
    elim (cases (eqb b c)) [
      | inl t ↦ at_quote b [] x p n.rest (rw t at e)
      | inr t ↦ enclosed_behind b (until c x) x p (λ q d. until_behind c x q n.rest d) (rw t at e)
    ]

double_behind : (x : List ℕ) (p : List ℕ × List ℕ) → has_nul x ≡ false → until_double x ≡ Some p
    → Behind p.1 x
double_behind [] p h e = absurd cc
double_behind (b ∷ []) p h e = elim (cases (eqb b 34)) [
  | inl t ↦ at_quote b [] [] p refl (rw t at e)
  | inr t ↦ absurd (let w : until_double (b ∷ []) ≡ None = rw t refl in cc)
]
double_behind (b ∷ c ∷ x) p h e =
    let n = no_nul b (c ∷ x) h in
    let k = no_nul c x n.rest in
    let more : enclosed b (until_double (c ∷ x)) ≡ Some p
    → Behind p.1 (b ∷ c ∷ x) = λ d. enclosed_behind b (until_double (c ∷ x)) (c ∷ x) p
    (λ q d. double_behind (c ∷ x) q n.rest d) d in
    elim (cases (eqb b 34)) [
      | inl t ↦ at_quote b [] (c ∷ x) p n.rest (rw t at e)
      | inr t ↦ elim (cases (eqb b 36 || eqb b 96)) [
        | inl f ↦ absurd (let w : until_double (b ∷ c ∷ x) ≡ None = rw (t, f) refl in cc)
        | inr f ↦ elim (cases (eqb b 92)) [
          | inl g ↦ elim (cases (eqb c 10)) [
            | inl i ↦
                behind_more b p.1 (c ∷ x)
                (behind_more c p.1 x (double_behind x p k.rest (rw (t, f, g, i) at e)))
            | inr i ↦ elim (cases (is_special_in_double c)) [
              | inl j ↦
                  behind_more b p.1 (c ∷ x)
                  (enclosed_behind c (until_double x) x p (λ q d. double_behind x q k.rest d)
                  (rw (t, f, g, i, j) at e))
              | inr j ↦ more (rw (t, f, g, i, j) at e)
            ]
          ]
          | inr g ↦ more (rw (t, f, g) at e)
        ]
      ]
    ]

line_behind : (x : List ℕ) → has_nul x ≡ false → Behind (line_end x) x
line_behind [] h = record { shorter = omega arith; clean = refl }
line_behind (b ∷ x) h =
    let n = no_nul b x h in
    elim (cases (eqb b 10)) [
      | inl e ↦ rw e (record { shorter = omega arith; clean = h })
      | inr e ↦ rw e (behind_more b (line_end x) x (line_behind x n.rest))
    ]

-- ---- the text

abbrev place_of : Bool → Place
place_of within = cond within Within Between

nil_parts : (n : ℕ) (within : Bool) → marks_of_parts n within [] ≡ marked (place_of within) []
unfolding marks_of_parts marked
nil_parts zero true = refl
nil_parts zero false = refl
nil_parts (suc n) true = refl
nil_parts (suc n) false = refl

quoted_parts : (o : Option (List ℕ × List ℕ)) (n : ℕ)
    → ((p : List ℕ × List ℕ) → o ≡ Some p → marks_of_parts n true p.1 ≡ marked Within p.1)
    → part_then (quoted_part o) (marks_of_parts n) ≡ with_mark Quote (closed o)
quoted_parts None n f = refl
quoted_parts (Some p) n f = ap (with_marks (Quote ∷ (map Quoted p.0 ++ Quote ∷ []))) (f p refl)
    ∙ with_marks-cons Quote (map Quoted p.0 ++ Quote ∷ []) (marked Within p.1)

with_none : (ms : Option (List Mark)) → with_marks [] ms ≡ ms
with_none None = refl
with_none (Some ms) = refl

-- what an unquoted byte does
abbrev unquoted_in : Bool → ℕ → Option ℕ → Move
unquoted_in within b next =
    cond (eqb b 92) (backslashed (place_of within) next)
    (cond (eqb b 39) (Gives Quote Single)
    (cond (eqb b 34) (Gives Quote Double)
    (cond ((eqb b 36 || eqb b 96) || (not within && eqb b 126)) (Expands)
    (cond (not within && eqb b 35) (Skips Comment)
    (cond (ends_word b) (Gives (Plain b) Between)
    (Gives (Plain b) Within))))))

unquoted_place : (within : Bool) (b : ℕ) (next : Option ℕ)
    → moves (place_of within) b next ≡ unquoted_in within b next
unquoted_place true b next = refl
unquoted_place false b next = refl

place_after : (b : ℕ) (x : List ℕ) → with_mark (Plain b) (marked (place_of (not (ends_word b))) x)
    ≡ made (cond (ends_word b) (Gives (Plain b) Between) (Gives (Plain b) Within))
    (λ (q : Place). marked q x) (λ (q : Place). marked q (drop 1 x))
place_after b x = elim (cases (ends_word b)) [ inl e ↦ rw e refl | inr e ↦ rw e refl ]

escaped_parts : (n : ℕ) (within : Bool) (x : List ℕ) → has_nul x ≡ false
    → ((v : Bool) (y : List ℕ) → length y ≤ length x → has_nul y ≡ false
    → marks_of_parts n v y ≡ marked (place_of v) y)
    → part_then (backslashed_part within x) (marks_of_parts n)
    ≡ made (backslashed (place_of within) (head x)) (λ (q : Place). marked q x)
    (λ (q : Place). marked q (drop 1 x))
escaped_parts n within [] h f = refl
escaped_parts n within (c ∷ x) h f =
    let k = no_nul c x h in
    elim (cases (eqb c 10)) [
      | inl e ↦ rw (k.first, e) (with_none (marks_of_parts n within x)
          ∙ f within x (omega arith) k.rest)
      | inr e ↦ rw (k.first, e) (with_one (Quoted c) (marks_of_parts n true x)
          ∙ ap (with_mark (Quoted c)) (f true x (omega arith) k.rest))
    ]

one_part : (n : ℕ) (within : Bool) (b : ℕ) (x : List ℕ) → eqb b 0 ≡ false → has_nul x ≡ false
    → ((v : Bool) (y : List ℕ) → length y ≤ length x → has_nul y ≡ false
    → marks_of_parts n v y ≡ marked (place_of v) y)
    → part_then (quoted_part (until 39 x)) (marks_of_parts n)
    ≡ with_mark Quote (closed (until 39 x))
    → part_then (quoted_part (until_double x)) (marks_of_parts n)
    ≡ with_mark Quote (closed (until_double x))
    → part_then (part within b x) (marks_of_parts n) ≡ marked (place_of within) (b ∷ x)
one_part n within b x nz nn go single double =
    let l = live (place_of within) b x nz in
    let place : (next : Option ℕ) → moves (place_of within) b next ≡ unquoted_in within b next =
    unquoted_place within b in
    rw (l, place)
    (elim (cases (eqb b 92)) [
      | inl a ↦ rw a (escaped_parts n within x nn go)
      | inr a ↦ elim (cases (eqb b 39)) [
        | inl c ↦ rw (a, c) (single ∙ ap (with_mark Quote) (until_marked x nn))
        | inr c ↦ elim (cases (eqb b 34)) [
          | inl d ↦ rw (a, c, d) (double ∙ ap (with_mark Quote) (double_marked x nn))
          | inr d ↦ elim (cases ((eqb b 36 || eqb b 96) || (not within && eqb b 126))) [
            | inl e ↦ rw (a, c, d, e) refl
            | inr e ↦ elim (cases (not within && eqb b 35)) [
              | inl f ↦ rw (a, c, d, e, f) (with_none (marks_of_parts n false (line_end x))
                  ∙ go false (line_end x) (line_behind x nn).shorter (line_behind x nn).clean
                  ∙ line_marked x nn)
              | inr f ↦
                  rw (a, c, d, e, f) (with_one (Plain b) (marks_of_parts n (not (ends_word b)) x)
                  ∙ ap (with_mark (Plain b)) (go (not (ends_word b)) x (omega arith) nn)
                  ∙ place_after b x)
            ]
          ]
        ]
      ]
    ])

pub parts_marked : (n : ℕ) (within : Bool) (x : List ℕ) → length x ≤ n → has_nul x ≡ false
    → marks_of_parts n within x ≡ marked (place_of within) x
unfolding marks_of_parts
parts_marked n within [] le h = nil_parts n within
parts_marked zero within (b ∷ x) le h = absurd (omega arith)
parts_marked (suc n) within (b ∷ x) le h =
    let k = no_nul b x h in
    let go : (v : Bool) (y : List ℕ) → length y ≤ length x → has_nul y ≡ false
    → marks_of_parts n v y ≡ marked (place_of v) y =
    λ v y l c. parts_marked n v y (omega arith) c in
    let quoted : (o : Option (List ℕ × List ℕ))
    → ((p : List ℕ × List ℕ) → o ≡ Some p → Behind p.1 x)
    → part_then (quoted_part o) (marks_of_parts n) ≡ with_mark Quote (closed o) =
    λ o f. quoted_parts o n (λ p e. go true p.1 (f p e).shorter (f p e).clean) in
    one_part n within b x k.first k.rest go
    (quoted (until 39 x) (λ p e. until_behind 39 x p k.rest e))
    (quoted (until_double x) (λ p e. double_behind x p k.rest e))

-- ---- NUL bytes

uses_two : Move → Bool
uses_two (Escapes m q) = true
uses_two (Joins q) = true
uses_two _ = false

record TakesOne (m : Move) : Type 0 where
  is : uses_two m ≡ false

one_or_other : (t : Bool) (x y : Move) → TakesOne x → TakesOne y → TakesOne (cond t x y)
one_or_other true x y h k = h
one_or_other false x y h k = k

gives : (m : Mark) (q : Place) → TakesOne (Gives m q)
unfolding uses_two
gives m q = record { is = refl }

skips : (q : Place) → TakesOne (Skips q)
unfolding uses_two
skips q = record { is = refl }

expanding : TakesOne Expands
unfolding uses_two
expanding = record { is = refl }

-- each of a chain of choices
either : (t : Bool) {x y : Move} → TakesOne x → TakesOne y → TakesOne (cond t x y)
either t {x} {y} h k = one_or_other t x y h k

unquoted_one : (place : Place) (b : ℕ) → TakesOne (unquoted place b (Some 0))
unquoted_one place b =
    either (eqb b 92) (skips place)
    (either (eqb b 39) (gives Quote Single)
    (either (eqb b 34) (gives Quote Double)
    (either ((eqb b 36 || eqb b 96) || (begins place && eqb b 126)) expanding
    (either (begins place && eqb b 35) (skips Comment)
    (either (ends_word b) (gives (Plain b) Between)
    (gives (Plain b) Within))))))

moves_one : (place : Place) (b : ℕ) → TakesOne (moves place b (Some 0))
moves_one Between b = unquoted_one Between b
moves_one Within b = unquoted_one Within b
moves_one Single b = either (eqb b 39) (gives Quote Within) (gives (Quoted b) Single)
moves_one Double b = either (eqb b 34) (gives Quote Within)
    (either (eqb b 36 || eqb b 96) expanding
    (either (eqb b 92) (gives (Quoted 92) Double) (gives (Quoted b) Double)))
moves_one Comment b = either (eqb b 10) (gives (Plain b) Between) (skips Comment)

made_one : (m : Move) (one two : Place → Option (List Mark)) → uses_two m ≡ false
    → ((q : Place) → one q ≡ None) → made m one two ≡ None
unfolding uses_two
made_one Expands one two h f = refl
made_one Breaks one two h f = refl
made_one (Gives m q) one two h f = ap (with_mark m) (f q)
made_one (Escapes m q) one two h f = absurd cc
made_one (Skips q) one two h f = f q
made_one (Joins q) one two h f = absurd cc

made_none : (m : Move) (one two : Place → Option (List Mark)) → ((q : Place) → one q ≡ None)
    → ((q : Place) → two q ≡ None) → made m one two ≡ None
made_none Expands one two f g = refl
made_none Breaks one two f g = refl
made_none (Gives m q) one two f g = ap (with_mark m) (f q)
made_none (Escapes m q) one two f g = ap (with_mark m) (g q)
made_none (Skips q) one two f g = f q
made_none (Joins q) one two f g = g q

nul_here : (place : Place) (b : ℕ) (x : List ℕ) → eqb b 0 ≡ true → marked place (b ∷ x) ≡ None
nul_here place b x h = marked-cons place b x ∙ rw h refl

nul_marked : (place : Place) (x : List ℕ) → has_nul x ≡ true → marked place x ≡ None
nul_marked place [] h = absurd cc
nul_marked place (b ∷ []) h =
    elim (cases (eqb b 0)) [
      | inl e ↦ nul_here place b [] e
      | inr e ↦ absurd (let w : has_nul (b ∷ []) ≡ false = rw e refl in cc)
    ]
nul_marked place (b ∷ c ∷ x) h =
    elim (cases (eqb b 0)) [
      | inl e ↦ nul_here place b (c ∷ x) e
      | inr e ↦
          let k : has_nul (c ∷ x) ≡ true = rw e at h in
          live place b (c ∷ x) e
          ∙ elim (cases (eqb c 0)) [
            | inl f ↦
                ap (λ (c : ℕ). made (moves place b (Some c)) (λ (q : Place). marked q (c ∷ x))
                (λ (q : Place). marked q x)) (eqb-true c 0 f)
                ∙ made_one (moves place b (Some 0)) (λ (q : Place). marked q (0 ∷ x))
                (λ (q : Place). marked q x) (moves_one place b).is (λ q. nul_here q 0 x refl)
            | inr f ↦ made_none (moves place b (Some c)) (λ (q : Place). marked q (c ∷ x))
                (λ (q : Place). marked q x) (λ q. nul_marked q (c ∷ x) k)
                (λ q. nul_marked q x (rw f at k))
          ]
    ]

pub parted : (text : List ℕ) → marked Between text ≡ marks text
parted text =
    elim (cases (has_nul text)) [
      | inl e ↦ nul_marked Between text e ∙ rw e refl
      | inr e ↦ sym (parts_marked (length text) false text (omega arith) e) ∙ rw e refl
    ]
