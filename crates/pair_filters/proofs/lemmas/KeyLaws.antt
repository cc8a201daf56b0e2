-- The key of a line, and its beginning.
use Rattle.std.proofs.Common.{◌≡◌, ℕ, zero, suc, ◌+◌, ◌-◌, ◌≤◌, min, eqb, Bool, true, false, cond}
use Rattle.std.proofs.Common.{take, List, [], ◌∷◌, ◌++◌, length, drop, refl, ap, ◌∙◌, sym, arith}
use Rattle.std.specs.List.{prefix_len}
use Rattle.std.proofs.lemmas.Bool.{eqb-true}
use Rattle.std.proofs.lemmas.List.{drop-drop, drop_all, drop_min, length-drop, take_all}
use Rattle.command_words.specs.Bytes.{is_blank_byte}
use Rattle.pair_filters.specs.declared.runs.Rules.{Rules}
use Rattle.commands.specs.Keys.{after_field, after_fields, is_no_blank}
use Rattle.machine.specs.Lines.{content, newline}
use Rattle.machine.proofs.LinesLaws.{content-whole}
use Rattle.pair_filters.specs.LineKeys.{IsEnded, IsKeyAt, key_by}

-- after nothing comes nothing
pub after_nothing : (n : ℕ) → after_fields n [] ≡ []
after_nothing zero = refl
after_nothing (suc n) = after_nothing n

-- nothing is left, however many fields are still to be skipped
pub fields_over : (left : ℕ) (rest behind : List ℕ) → eqb (length rest) 0 ≡ true
    → after_fields left rest ≡ behind → rest ≡ behind
fields_over left [] behind h e = sym (after_nothing left) ∙ e
fields_over left (x ∷ xs) behind h e =
    let none : length (x ∷ xs) ≡ 0 = eqb-true (length (x ∷ xs)) 0 h in
    absurd (omega arith)

-- what follows fields is an end of the line
abbrev IsEnd : List ℕ → List ℕ → Type 0
IsEnd line part = (at : ℕ) × (part ≡ drop at line)

field_end : (line : List ℕ) → IsEnd line (after_field line)
field_end line =
    let blanks = prefix_len is_blank_byte line in
    let word = prefix_len is_no_blank (drop blanks line) in
    (blanks + word, drop-drop word blanks line)

fields_end : (n : ℕ) (line : List ℕ) → IsEnd line (after_fields n line)
fields_end zero line = (0, refl)
fields_end (suc n) line =
    let first = field_end line in
    let others = fields_end n (after_field line) in (
      first.0 + others.0,
      others.1 ∙ (ap (drop (others.0)) (first.1)
          ∙ drop-drop (others.0) (first.0) line),
    )

key_end : (rules : Rules) (line : List ℕ) → IsEnd line (key_by rules line)
key_end rules line =
    let fields = fields_end rules.skipped_fields line in (
      fields.0 + rules.skipped_bytes,
      ap (drop rules.skipped_bytes) (fields.1)
          ∙ drop-drop rules.skipped_bytes (fields.0) line,
    )

key_long : (rules : Rules) (line : List ℕ)
    → length (key_by rules line) ≡ length line - (key_end rules line).0
key_long rules line = let e = key_end rules line in ap length (e.1) ∙ length-drop (e.0) line

-- the key of a line is no longer than the line
pub key_short : (rules : Rules) (line part : List ℕ) → part ≡ key_by rules line
    → length part ≤ length line
key_short rules line part is = omega (arith, ap length is, key_long rules line)

-- and it begins as far before the end
pub key_begins : (rules : Rules) (line part kept : List ℕ) → part ≡ key_by rules line → kept ≡ line
    → IsKeyAt rules kept (length line - length part)
key_begins rules line part kept is same =
    let k = (key_end rules line).0 in
    let at : length line - length part ≡ min k (length line) =
    omega (arith, ap length is, key_long rules line) in (
      omega (arith, ap length same),
      ap (drop (length line - length part)) same
          ∙ (ap (λ (n : ℕ). drop n line) at
          ∙ (drop_min k line ∙ (sym ((key_end rules line).1) ∙ ap (key_by rules) (sym same)))),
    )

-- it is the part of the line that is as long and goes up to the end
pub key_taken : (rules : Rules) (line part : List ℕ) (m n : ℕ) → m ≡ length line → n ≡ length line
    → part ≡ key_by rules line → take (n - (m - length part)) (drop (m - length part) line)
    ≡ key_by rules line
key_taken rules line part m n e f is =
    let from = length line - length part in
    ap (λ (k : ℕ). take (n - (k - length part)) (drop (k - length part) line)) e
    ∙ (take_all (n - from) (drop from line) (omega (arith, f, length-drop from line))
    ∙ (key_begins rules line part line is refl).1)

-- the key of an empty line
pub no_key : (rules : Rules) (kept : List ℕ) → kept ≡ [] → IsKeyAt rules kept 0
no_key rules kept none = (
  omega arith,
  none ∙ (sym (drop_all rules.skipped_bytes [] (omega arith))
      ∙ (ap (drop rules.skipped_bytes) (sym (after_nothing rules.skipped_fields))
      ∙ ap (key_by rules) (sym none))),
)

-- a line and its newline are kept
pub kept_content : (line kept : List ℕ) → kept ≡ line ++ newline ∷ [] → content kept ≡ line
kept_content line kept e = ap content e ∙ content-whole line

pub kept_ended : (line kept : List ℕ) → kept ≡ line ++ newline ∷ [] → IsEnded kept
kept_ended line kept e = e ∙ ap (λ (x : List ℕ). x ++ newline ∷ []) (sym (kept_content line kept e))

-- the content of a line is its front
content_one : (b : Bool) (x : ℕ) → take (length (cond {A = List ℕ} b [] (x ∷ []))) (x ∷ [])
    ≡ cond b [] (x ∷ [])
content_one true x = refl
content_one false x = refl

pub content_front : (line : List ℕ) → take (length (content line)) line ≡ content line
content_front [] = refl
content_front (x ∷ []) = content_one (eqb x newline) x
content_front (x ∷ y ∷ ys) = ap (λ (zs : List ℕ). x ∷ zs) (content_front (y ∷ ys))
