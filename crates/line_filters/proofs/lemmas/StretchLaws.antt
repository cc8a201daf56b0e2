-- Stretches of bytes that are kept.
use Rattle.std.proofs.Common.{◌≡◌, ℕ, ◌+◌, ◌-◌, ◌≤◌, Bool, true, false, cond, List, [], ◌∷◌, ◌++◌}
use Rattle.std.proofs.Common.{length, take, drop, refl, ap, ◌∙◌, sym, subst, arith, append_assoc}
use Rattle.std.proofs.lemmas.List.{append-nil, drop-drop}
use Rattle.line_filters.specs.declared.stretches.Stretch.{Stretch}
use Rattle.line_filters.specs.inner.FieldPlaces.{IsLed}
use Rattle.line_filters.specs.inner.Stretches.{kept_of, reach_of}
use Rattle.line_filters.proofs.lemmas.FieldLaws.{lead, with_lead}

-- one stretch more
kept-append : (ss : List Stretch) (s : Stretch) (xs : List ℕ)
    → kept_of (ss ++ s ∷ []) xs ≡ kept_of ss xs ++ take s.len (drop (reach_of ss + s.skip) xs)
kept-append [] s xs =
    let n : s.skip ≡ 0 + s.skip = omega arith in
    append-nil (take s.len (drop s.skip xs)) ∙ ap (λ (k : ℕ). take s.len (drop k xs)) n
kept-append (t ∷ ss) s xs =
    let front = take t.len (drop t.skip xs) in
    let rest = drop (t.skip + t.len) xs in
    let n : t.skip + t.len + (reach_of ss + s.skip) ≡ t.skip + t.len + reach_of ss + s.skip =
    omega arith in
    ap (λ (x : List ℕ). front ++ x) (kept-append ss s rest)
    ∙ (ap (λ (x : List ℕ). front ++ (kept_of ss rest ++ take s.len x))
    (drop-drop (reach_of ss + s.skip) (t.skip + t.len) xs ∙ ap (λ (k : ℕ). drop k xs) n)
    ∙ sym (append_assoc front (kept_of ss rest)
    (take s.len (drop (t.skip + t.len + reach_of ss + s.skip) xs))))

reach-append : (ss : List Stretch) (s : Stretch)
    → reach_of (ss ++ s ∷ []) ≡ reach_of ss + s.skip + s.len
reach-append [] s = omega arith
reach-append (t ∷ ss) s = omega (arith, reach-append ss s)

lead_from : (first : Bool) (d : ℕ) (content : List ℕ) (at start n : ℕ) → n ≡ at - 1
    → cond first at 0 ≡ 0 → (first ≡ false → IsLed d content at) → at ≤ start
    → n + (start - at) ≡ lead first start
lead_from true d content at start n e none led order = omega (arith, e, none)
lead_from false d content at start n e none led order =
    let l = led refl in
    omega (arith, e, l.some, order)

lead-le : (first : Bool) (start : ℕ) → lead first start ≤ start
lead-le true start = omega arith
lead-le false start = omega arith

-- the fields from `start` up to `end` are one
pub record StretchAdded (first : Bool) (d : ℕ) (content : List ℕ) (start end : ℕ)
    (old new : List Stretch) : Type 0 where
  pub kept : kept_of new content ≡ kept_of old content ++ cond first
      (take (end - start) (drop start content)) (d ∷ take (end - start) (drop start content))
  pub reach : reach_of new ≡ end

pub stretch_added : (first : Bool) (d : ℕ) (content : List ℕ) (at start end : ℕ)
    (old new : List Stretch) → reach_of old ≡ at - 1 → cond first at 0 ≡ 0
    → (first ≡ false → IsLed d content at) → (first ≡ false → IsLed d content start) → at ≤ start
    → start ≤ end → new ≡ old ++ record { skip = start - at; len = end - lead first start } ∷ []
    → StretchAdded first d content start end old new
stretch_added first d content at start end old new reach none led led' after order e =
    let s : Stretch = record { skip = start - at; len = end - lead first start } in
    let from : reach_of old + (start - at) ≡ lead first start =
    lead_from first d content at start (reach_of old) reach none led after in
    record {
      kept =
          ap (λ ss. kept_of ss content) e
          ∙ (kept-append old s content
          ∙ (ap (λ (k : ℕ). kept_of old content ++ take (end - lead first start) (drop k content))
          from
          ∙ ap (λ (x : List ℕ). kept_of old content ++ x)
          (with_lead first d content start end led' order)));
      reach = ap reach_of e
          ∙ (reach-append old s ∙ omega (arith, from, lead-le first start, order));
    }

-- the next stretch is moved to the end of those before it
pub stretch_kept : (content content' : List ℕ) (kept at : ℕ) (s : Stretch) (ss : List Stretch)
    (whole : List ℕ) → take kept content ++ kept_of (s ∷ ss) (drop at content) ≡ whole
    → take (kept + (at + s.skip + s.len - (at + s.skip))) content'
    ≡ take kept content ++ take (at + s.skip + s.len - (at + s.skip)) (drop (at + s.skip) content)
    → drop (at + s.skip + s.len) content' ≡ drop (at + s.skip + s.len) content
    → take (kept + s.len) content' ++ kept_of ss (drop (at + s.skip + s.len) content') ≡ whole
stretch_kept content content' kept at s ss whole h moved rest =
    let from = at + s.skip in
    let end = at + s.skip + s.len in
    let n : end - from ≡ s.len = omega arith in
    let part = take s.len (drop from content) in
    let later = kept_of ss (drop end content) in
    let front : take (kept + s.len) content' ≡ take kept content ++ part =
    subst (λ (k : ℕ). take (kept + k) content' ≡ take kept content ++ take k
    (drop from content)) n moved in
    let m : at + (s.skip + s.len) ≡ end = omega arith in
    let after : drop (s.skip + s.len) (drop at content) ≡ drop end content =
    drop-drop (s.skip + s.len) at content ∙ ap (λ (k : ℕ). drop k content) m in
    ap (λ (x : List ℕ). x ++ kept_of ss (drop end content')) front
    ∙ (ap (λ (x : List ℕ). (take kept content ++ part) ++ kept_of ss x) rest
    ∙ (append_assoc (take kept content) part later
    ∙ (ap (λ (x : List ℕ). take kept content ++ (take s.len x ++ later))
    (sym (drop-drop s.skip at content))
    ∙ (ap (λ (x : List ℕ). take kept content
    ++ (take s.len (drop s.skip (drop at content)) ++ kept_of ss x)) (sym after) ∙ h))))

pub none_left : (ss : List Stretch) → length ss ≡ 0 → ss ≡ []
none_left [] e = refl
none_left (s ∷ ss) e = absurd (omega (arith, e))
