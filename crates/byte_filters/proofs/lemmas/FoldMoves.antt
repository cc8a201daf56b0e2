-- The machine of fold goes on as the law says.
use Rattle.std.proofs.Common.{◌≡◌, ℕ, zero, suc, ◌+◌, ◌-◌, false, eqb, List, [], ◌∷◌, ◌++◌, length}
use Rattle.std.proofs.Common.{take, drop, get_or, Option, Some, None, refl, ap, ◌∙◌, sym, subst}
use Rattle.std.proofs.Common.{append_assoc, arith}
use Rattle.std.specs.List.{flat_map}
use Rattle.std.proofs.lemmas.List.{append-nil, drop_all, length-append, length-take}
use Rattle.std.proofs.lemmas.List.Elements.{All-head, All-tail}
use Rattle.std.proofs.Math.Seq.{take-append-add}
use Rattle.machine.specs.Lines.{newline, HasNoNewline, IsLine}
use Rattle.machine.specs.inner.Places.{FirstFrom}
use Rattle.machine.specs.Law.{Feeds, Closes}
use Rattle.machine.specs.Pieces.{Queued, contents}
use Rattle.machine.specs.Whole.{present}
use Rattle.machine.specs.declared.protocol.Presence.TheVariants.{Present, Missing}
use Rattle.machine.specs.declared.protocol.Want.TheVariants.{Take}
use Rattle.commands.specs.declared.fold_words.FoldForm.{FoldForm}
use Rattle.byte_filters.specs.declared.fold.Fold.{Fold}
use Rattle.commands.specs.Fold.{folded}
use Rattle.byte_filters.specs.FoldShows.{fold_shows, folded_behind}
use Rattle.machine.specs.InOrder.{in_order, wanted_of}
use Rattle.byte_filters.specs.inner.Scans.{Folds}
use Rattle.machine.proofs.InOrderLaws.{in_order_feeds, in_order_closes, left}

nothing_held : (spec : FoldForm) (ins : List (Option (List ℕ)))
    → folded_behind spec [] ins ≡ flat_map (folded spec) (present ins)
nothing_held spec [] = refl
nothing_held spec (None ∷ ins) = refl
nothing_held spec (Some xs ∷ ins) = refl

-- what bytes give that were folded, and that nothing follows
pub whole_text : (spec : FoldForm) (held rest made made1 made2 : List ℕ)
    → Folds spec held rest made made1 → folded spec rest ≡ rest → made2 ≡ made1 ++ rest
    → made2 ≡ made ++ folded spec held
whole_text spec held rest made made1 made2 f ends e =
    e
    ∙ (ap (λ (z : List ℕ). made1 ++ z) (sym ends ∙ ap (folded spec) (sym (append-nil rest)))
    ∙ (sym (f.goes_on []) ∙ ap (λ (z : List ℕ). made ++ folded spec z) (append-nil held)))

-- a line and what follows it, if nothing is left of the line
pub folds_on : (spec : FoldForm) (held line bytes rest left made made1 made2 : List ℕ) → left ≡ []
    → Folds spec (held ++ line) left made made1 → Folds spec bytes rest made1 made2
    → Folds spec (held ++ (line ++ bytes)) rest made made2
folds_on spec held line bytes rest left made made1 made2 none f g =
    record {
      goes_on = λ ys.
          ap (λ (z : List ℕ). made ++ folded spec z)
          (ap (λ (z : List ℕ). z ++ ys) (sym (append_assoc held line bytes))
          ∙ append_assoc (held ++ line) bytes ys)
          ∙ (f.goes_on (bytes ++ ys)
          ∙ (ap (λ (z : List ℕ). made1 ++ folded spec (z ++ (bytes ++ ys))) none
          ∙ g.goes_on ys));
    }

-- the line up to the first newline
pub line_to : (bytes : List ℕ) (k : ℕ) → FirstFrom bytes newline 0 k → IsLine (take (k + 1) bytes)
line_to bytes k f =
    let front = take (k - 0) bytes in
    let n : k + 1 ≡ length front + 1 = omega (arith, f.within, length-take (k - 0) bytes) in (
      front,
      f.none_before,
      ap (take (k + 1)) f.here ∙ (ap (λ (j : ℕ). take j (front ++ newline ∷ drop (k + 1) bytes)) n
          ∙ take-append-add front (newline ∷ drop (k + 1) bytes) 1),
    )

-- what follows the last newline, and has none
behind_last : (xs : List ℕ) (n : ℕ) → HasNoNewline (drop n (xs ++ newline ∷ []))
    → drop n (xs ++ newline ∷ []) ≡ []
behind_last [] zero h =
    let no : eqb newline newline ≡ false = All-head (λ y. eqb y newline ≡ false) newline [] h in
    absurd (cc)
behind_last [] (suc n) h = drop_all n [] (omega arith)
behind_last (x ∷ xs) zero h =
    let none : xs ++ newline ∷ [] ≡ [] = behind_last xs zero
    (All-tail (λ y. eqb y newline ≡ false) x (xs ++ newline ∷ []) h) in
    absurd (omega (arith, ap length none, length-append xs (newline ∷ [])))
behind_last (x ∷ xs) (suc n) h = behind_last xs n h

-- nothing is left of bytes that end with a newline
pub line_folded : (spec : FoldForm) (held line bytes rest made made' : List ℕ) (count : ℕ)
    → IsLine line → bytes ≡ held ++ line → rest ≡ [] → HasNoNewline (drop count bytes)
    → Folds spec bytes (drop count bytes) made made' → Folds spec (held ++ line) rest made made'
line_folded spec held line bytes rest made made' count l e none plain f =
    let ends : bytes ≡ (held ++ l.0) ++ newline ∷ [] = e
    ∙ (ap (λ (z : List ℕ). held ++ z) (l.2) ∙ sym (append_assoc held (l.0) (newline ∷ []))) in
    let over : drop count bytes ≡ [] = ap (drop count) ends
    ∙ behind_last (held ++ l.0) count
    (subst (λ (z : List ℕ). HasNoNewline (drop count z)) ends plain) in
    record {
      goes_on = λ ys.
          ap (λ (z : List ℕ). made ++ folded spec (z ++ ys)) (sym e)
          ∙ (f.goes_on ys ∙ ap (λ (z : List ℕ). made' ++ folded spec (z ++ ys)) (over
          ∙ sym none));
    }

-- a piece of an input that is present
pub fold_feeds : (m : Fold) (i : ℕ) (piece bytes old held made none : List ℕ) (out out' : Queued)
    → bytes ≡ piece → old ≡ m.held.items → none ≡ [] → Folds m.spec (old ++ bytes) held none made
    → wanted_of m.inputs.presence m.inputs.at ≡ Take i
    → get_or m.inputs.presence m.inputs.at Present ≡ Present → contents out' ≡ contents out ++ made
    → Feeds i piece (fold_shows m)
    (in_order m.inputs.presence m.inputs.at
    (λ ys. folded_behind m.spec held (left m.inputs.presence m.inputs.at ys)) (λ ys. 0)) out out'
fold_feeds m i piece bytes old held made none out out' b o n f wants here added =
    in_order_feeds m.inputs.presence m.inputs.at i Present piece made out out'
    (folded_behind m.spec m.held.items) (folded_behind m.spec held) (λ _. 0)
    (λ _. 0) wants here added
    (λ y ins.
    let all = m.held.items ++ piece in
    let same : old ++ bytes ≡ all = ap (λ (z : List ℕ). z ++ bytes) o
    ∙ ap (λ (z : List ℕ). m.held.items ++ z) b in
    let goes : folded m.spec (all ++ y) ≡ made ++ folded m.spec (held ++ y) =
    ap (λ (z : List ℕ). folded m.spec (z ++ y)) (sym same)
    ∙ (ap (λ (z : List ℕ). z ++ folded m.spec ((old ++ bytes) ++ y)) (sym n) ∙ f.goes_on y) in
    ap (λ (z : List ℕ). folded m.spec z ++ flat_map (folded m.spec) (present ins))
    (sym (append_assoc m.held.items piece y))
    ∙ (ap (λ (z : List ℕ). z ++ flat_map (folded m.spec) (present ins)) goes
    ∙ append_assoc made (folded m.spec (held ++ y)) (flat_map (folded m.spec) (present ins))))
    (λ y ins. omega arith)

-- a piece of one that is missing
pub fold_skips : (m : Fold) (i : ℕ) (piece : List ℕ) (out : Queued)
    → wanted_of m.inputs.presence m.inputs.at ≡ Take i
    → get_or m.inputs.presence m.inputs.at Present ≡ Missing
    → Feeds i piece (fold_shows m) (fold_shows m) out out
fold_skips m i piece out wants gone =
    in_order_feeds m.inputs.presence m.inputs.at i Missing piece [] out out
    (folded_behind m.spec m.held.items) (folded_behind m.spec m.held.items) (λ _. 0)
    (λ _. 0) wants gone (sym (append-nil (contents out))) (λ y ins. refl) (λ y ins. omega arith)

-- the end of an input that is present
pub fold_closes : (m : Fold) (i : ℕ) (text held : List ℕ) (out out' : Queued)
    → folded m.spec m.held.items ≡ text → held ≡ []
    → wanted_of m.inputs.presence m.inputs.at ≡ Take i
    → get_or m.inputs.presence m.inputs.at Present ≡ Present → contents out' ≡ contents out ++ text
    → Closes i (fold_shows m) (in_order m.inputs.presence (m.inputs.at + 1)
    (λ ys. folded_behind m.spec held (left m.inputs.presence (m.inputs.at + 1) ys)) (λ ys. 0)) out
    out'
fold_closes m i text held out out' t e wants here added =
    in_order_closes m.inputs.presence m.inputs.at i Present text out out'
    (folded_behind m.spec m.held.items) (folded_behind m.spec held) (λ _. 0)
    (λ _. 0) wants here added
    (λ ins last.
    ap (λ (z : List ℕ). folded m.spec z ++ flat_map (folded m.spec) (present ins))
    (append-nil m.held.items)
    ∙ (ap (λ (z : List ℕ). z ++ flat_map (folded m.spec) (present ins)) t
    ∙ ap (λ (z : List ℕ). text ++ z) (sym (ap (λ (h : List ℕ). folded_behind m.spec h ins) e
    ∙ nothing_held m.spec ins))))
    (λ ins last. omega arith)

-- the end of one that is missing
pub fold_passes : (m : Fold) (i : ℕ) (held : List ℕ) (out : Queued) → held ≡ []
    → wanted_of m.inputs.presence m.inputs.at ≡ Take i
    → get_or m.inputs.presence m.inputs.at Present ≡ Missing
    → Closes i (fold_shows m) (in_order m.inputs.presence (m.inputs.at + 1)
    (λ ys. folded_behind m.spec held (left m.inputs.presence (m.inputs.at + 1) ys)) (λ ys. 0)) out
    out
fold_passes m i held out e wants gone =
    in_order_closes m.inputs.presence m.inputs.at i Missing [] out out
    (folded_behind m.spec m.held.items) (folded_behind m.spec held) (λ _. 0) (λ _. 0) wants gone
    (sym (append-nil (contents out)))
    (λ ins last. sym (ap (λ (h : List ℕ). folded_behind m.spec h ins) e ∙ nothing_held m.spec ins))
    (λ ins last. omega arith)
