-- The end of an input, and the last lines or bytes that are in it.
use Rattle.std.proofs.Common.{◌≡◌, ℕ, ◌+◌, ◌-◌, ◌≤◌, Bool, true, false, cond, eqb, List, [], ◌∷◌}
use Rattle.std.proofs.Common.{◌++◌, length, drop, refl, ap, ◌∙◌, sym, arith, length-append, inl}
use Rattle.std.proofs.Common.{inr}
use Rattle.std.specs.List.{concat, onto_first}
use Rattle.std.proofs.Math.Seq.{drop-append-add}
use Rattle.machine.specs.Lines.{lines, newline}
use Rattle.machine.specs.Whole.{Answer}
use Rattle.commands.specs.Tail.{tail_of, last_members}
use Rattle.commands.specs.declared.tail_words.Counted.{Counted}
use Rattle.commands.specs.declared.tail_words.Counted.TheVariants.{Lines, Bytes}
use Rattle.commands.specs.declared.tail_words.Origin.TheVariants.{End}
use Rattle.line_filters.specs.TailNeeds.{EndsWithLine, IsEnough, TailsNeedOnlyAnEnd}
use Rattle.line_filters.proofs.lemmas.KeptLaws.{some_lines_by}

-- the last n members are among the last ones, if these are as many
last_later : {X : Type 0} (n : ℕ) (first later : List X) → n ≤ length later
    → last_members n (first ++ later) ≡ last_members n later
last_later n first later h =
    let long = length-append first later in
    let e : length (first ++ later) - n ≡ length first + (length later - n) =
    omega (arith, long, h) in
    ap (λ (k : ℕ). drop k (first ++ later)) e ∙ drop-append-add first later (length later - n)

onto_apart : (x : ℕ) (ls later : List (List ℕ)) → 1 ≤ length ls
    → onto_first x (ls ++ later) ≡ onto_first x ls ++ later
onto_apart x [] later some = absurd (omega (arith, some))
onto_apart x (l ∷ ls) later some = refl

apart_by : (b : Bool) (x : ℕ) (ls later all : List (List ℕ)) → 1 ≤ length ls → all ≡ ls ++ later
    → cond b ((x ∷ []) ∷ all) (onto_first x all) ≡ cond b ((x ∷ []) ∷ ls) (onto_first x ls) ++ later
apart_by true x ls later all some e = ap (λ (m : List (List ℕ)). (x ∷ []) ∷ m) e
apart_by false x ls later all some e = ap (onto_first x) e ∙ onto_apart x ls later some

some_line : (before : List ℕ) → 1 ≤ length (lines (before ++ newline ∷ []))
some_line [] = omega arith
some_line (x ∷ before) = some_lines_by (eqb x newline) x (before ++ newline ∷ [])

-- after a newline the lines begin anew
lines_anew : (before end : List ℕ) → lines ((before ++ newline ∷ []) ++ end)
    ≡ lines (before ++ newline ∷ []) ++ lines end
lines_anew [] end = refl
lines_anew (x ∷ before) end =
    apart_by (eqb x newline) x (lines (before ++ newline ∷ [])) (lines end)
    (lines ((before ++ newline ∷ []) ++ end)) (some_line before) (lines_anew before end)

lines_apart : (front end : List ℕ) → EndsWithLine front
    → lines (front ++ end) ≡ lines front ++ lines end
lines_apart front end w = ap (λ (x : List ℕ). lines (x ++ end)) w.1
    ∙ (lines_anew w.0 end ∙ ap (λ (x : List ℕ). lines x ++ lines end) (sym w.1))

same_last : (counted : Counted) (n : ℕ) (front end : List ℕ) → IsEnough counted n front end
    → tail_of counted End n (front ++ end) ≡ tail_of counted End n end
same_last Lines n front end enough =
    elim enough [
      | inl none ↦ ap (λ (x : List ℕ). tail_of Lines End n (x ++ end)) none
      | inr w ↦ ap (λ (ls : List (List ℕ)). concat (last_members n ls)) (lines_apart front end w.0)
          ∙ ap concat (last_later n (lines front) (lines end) w.1)
    ]
same_last Bytes n front end enough =
    elim enough [
      | inl none ↦ ap (λ (x : List ℕ). tail_of Bytes End n (x ++ end)) none
      | inr long ↦
          last_later n front end long
    ]

-- what tail writes of one input, as its answer
abbrev answer_of : List ℕ → Answer
answer_of x = record { out = x ++ []; count = 0 }

-- tail of an input is tail of an end that is enough
pub tails_need_an_end : TailsNeedOnlyAnEnd
tails_need_an_end counted n front end enough = ap answer_of (same_last counted n front end enough)
