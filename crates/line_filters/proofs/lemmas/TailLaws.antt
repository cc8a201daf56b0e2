-- Lines or bytes that are skipped.
use Rattle.std.proofs.Common.{◌≡◌, ℕ, zero, suc, ◌+◌, ◌-◌, ◌<◌, ◌≤◌, Bool, true, false, cond, not}
use Rattle.std.proofs.Common.{List, [], ◌∷◌, ◌++◌, length, take, drop, refl, ap, ◌∙◌, sym, subst}
use Rattle.std.proofs.Common.{arith, append_assoc}
use Rattle.std.specs.Prelude.{◌&&◌, ◌==◌, MatchBool}
use Rattle.std.proofs.lemmas.Bool.{and_right}
use Rattle.std.specs.List.{concat, flat_map}
use Rattle.std.proofs.lemmas.List.{append-nil, take-append-drop, append_cancel_left, drop_all}
use Rattle.std.proofs.lemmas.List.{drop_at, drop-drop, drop-append-le}
use Rattle.std.proofs.lemmas.List.Folds.{concat-append}
use Rattle.machine.specs.Law.{IsNew}
use Rattle.machine.specs.Lines.{lines}
use Rattle.machine.specs.OneInput.{one_input}
use Rattle.machine.specs.Pieces.{Queued, contents}
use Rattle.machine.specs.Whole.{inputs_of, present}
use Rattle.machine.specs.declared.protocol.Presence.{Presence}
use Rattle.machine.specs.declared.protocol.Presence.TheVariants.{Present, Missing}
use Rattle.machine.proofs.LinesLaws.{concat-lines}
use Rattle.commands.specs.declared.tail_words.Counted.{Counted}
use Rattle.commands.specs.declared.tail_words.Counted.TheVariants.{Lines, Bytes}
use Rattle.commands.specs.declared.tail_words.Origin.{Origin}
use Rattle.commands.specs.declared.tail_words.Origin.TheVariants.{Beginning, End}
use Rattle.machine.specs.FrontLines.{FrontLines}
use Rattle.commands.specs.Head.{head_of}
use Rattle.line_filters.specs.KeptParts.{amount_of}
use Rattle.line_filters.specs.Skips.{skipped, members_in, last_of, left_of, SkipsTo, PutsBehind}
use Rattle.machine.proofs.FrontLaws.{front_all}
use Rattle.commands.specs.Tail.{tail_of, tail_whole}
use Rattle.line_filters.specs.TailShows.{still_of, tail_still}

-- what follows the first n lines is all but these
behind_front : (n : ℕ) (x : List ℕ) → head_of n x ++ concat (drop n (lines x)) ≡ x
behind_front n x = sym (concat-append (take n (lines x)) (drop n (lines x)))
    ∙ (ap concat (take-append-drop n (lines x)) ∙ concat-lines x)

behind_by : (left : ℕ) (bytes zs behind : List ℕ) (end : ℕ) → (0 < left → end ≡ length bytes)
    → head_of left zs ++ behind ≡ drop end bytes ++ zs
    → behind ≡ drop end bytes ++ concat (drop left (lines zs))
behind_by zero bytes zs behind end all e = e
    ∙ ap (λ (x : List ℕ). drop end bytes ++ x) (sym (concat-lines zs))
behind_by (suc k) bytes zs behind end all e =
    let is_end : end ≡ length bytes = all (omega arith) in
    let none : drop end bytes ≡ [] = drop_all end bytes (omega arith) in
    append_cancel_left (head_of (suc k) zs) behind (concat (drop (suc k) (lines zs))) (e
    ∙ (ap (λ (x : List ℕ). x ++ zs) none ∙ sym (behind_front (suc k) zs)))
    ∙ ap (λ (x : List ℕ). x ++ concat (drop (suc k) (lines zs))) (sym none)

pub skip_lines : (bytes : List ℕ) (n end left : ℕ) → FrontLines bytes n end left
    → SkipsTo Lines bytes n end left
skip_lines bytes n end left f =
    record {
      within = f.within;
      splits = λ zs.
          let behind = concat (drop n (lines (bytes ++ zs))) in
          behind_by left bytes zs behind end f.all
          (append_cancel_left (take end bytes) (head_of left zs ++ behind) (drop end bytes ++ zs)
          (sym (append_assoc (take end bytes) (head_of left zs) behind)
          ∙ (ap (λ (x : List ℕ). x ++ behind) (sym (f.splits zs))
          ∙ (behind_front n (bytes ++ zs)
          ∙ (ap (λ (x : List ℕ). x ++ zs) (sym (take-append-drop end bytes))
          ∙ append_assoc (take end bytes) (drop end bytes) zs)))));
    }

pub skip_some_bytes : (bytes : List ℕ) (n : ℕ) → n < length bytes → SkipsTo Bytes bytes n n 0
skip_some_bytes bytes n h = record {
  within = omega arith;
  splits =
      λ zs. drop-append-le n bytes zs (omega arith);
}

pub drop_past : (k : ℕ) (xs zs : List ℕ) → drop (length xs + k) (xs ++ zs) ≡ drop k zs
drop_past k xs zs = sym (drop-drop k (length xs) (xs ++ zs))
    ∙ ap (drop k) (drop_at xs zs (length xs) refl)

pub skip_all_bytes : (bytes : List ℕ) (n : ℕ) → length bytes ≤ n
    → SkipsTo Bytes bytes n (length bytes) (n - length bytes)
skip_all_bytes bytes n h =
    record {
      within = omega arith;
      splits = λ zs.
          let e : n ≡ length bytes + (n - length bytes) = omega arith in
          ap (λ (k : ℕ). drop k (bytes ++ zs)) e
          ∙ (drop_past (n - length bytes) bytes zs
          ∙ ap (λ (x : List ℕ). x ++ drop (n - length bytes) zs)
          (sym (drop_all (length bytes) bytes (omega arith))));
    }

-- more than end in these bytes
pub skip_many : (counted : Counted) (bytes : List ℕ) (n amount : ℕ)
    → amount ≡ amount_of counted bytes → amount < n
    → SkipsTo counted bytes n (length bytes) (n - amount)
skip_many Lines bytes n amount e h = skip_lines bytes n (length bytes) (n - amount)
    (front_all bytes n amount e h)
skip_many Bytes bytes n amount e h =
    let low : length bytes ≤ n = omega (arith, e, h) in
    subst (λ (k : ℕ). SkipsTo Bytes bytes n (length bytes) (n - k)) (sym e)
    (skip_all_bytes bytes n low)

-- none of them comes after
pub puts_none : (counted : Counted) (bytes : List ℕ) (n amount left : ℕ) (out : Queued)
    → amount ≡ amount_of counted bytes → amount < n → left ≡ n - amount
    → PutsBehind counted bytes n left out out
puts_none counted bytes n amount left out e h less =
    let s = subst (λ (k : ℕ). SkipsTo counted bytes n (length bytes) k) (sym less)
    (skip_many counted bytes n amount e h) in
    record {
      made = [];
      added = sym (append-nil (contents out));
      splits = λ zs. s.splits zs
          ∙ ap (λ (x : List ℕ). x ++ skipped counted left zs)
          (drop_all (length bytes) bytes (omega arith));
    }

-- what was put out goes on with the bytes that follow
pub puts_on : (counted : Counted) (n left : ℕ) (piece rest all : List ℕ) (out out' : Queued)
    → all ≡ contents out ++ skipped counted n (piece ++ rest)
    → PutsBehind counted piece n left out out' → all ≡ contents out' ++ skipped counted left rest
puts_on counted n left piece rest all out out' e p =
    e
    ∙ (ap (λ (x : List ℕ). contents out ++ x) (p.splits rest)
    ∙ (sym (append_assoc (contents out) p.made (skipped counted left rest))
    ∙ ap (λ (x : List ℕ). x ++ skipped counted left rest) (sym p.added)))

-- the whole piece comes after them
pub puts_whole : (counted : Counted) (bytes piece : List ℕ) (n end left : ℕ) (out out' : Queued)
    → bytes ≡ piece → SkipsTo counted bytes n end left → end ≡ 0
    → contents out' ≡ contents out ++ piece → PutsBehind counted piece n left out out'
puts_whole counted bytes piece n end left out out' e s none added =
    record {
      made = piece;
      added = added;
      splits = λ zs.
          ap (λ (x : List ℕ). skipped counted n (x ++ zs)) (sym e)
          ∙ (s.splits zs ∙ (ap (λ (k : ℕ). drop k bytes ++ skipped counted left zs) none
          ∙ ap (λ (x : List ℕ). x ++ skipped counted left zs) e));
    }

-- a part of it does
pub puts_rest : (counted : Counted) (bytes piece : List ℕ) (n end left : ℕ) (out out' : Queued)
    → bytes ≡ piece → SkipsTo counted bytes n end left
    → contents out' ≡ contents out ++ drop end bytes → PutsBehind counted piece n left out out'
puts_rest counted bytes piece n end left out out' e s added =
    record {
      made = drop end bytes;
      added = added;
      splits = λ zs. ap (λ (x : List ℕ). skipped counted n (x ++ zs)) (sym e) ∙ s.splits zs;
    }

pub skipped_nothing : (counted : Counted) (n : ℕ) → skipped counted n [] ≡ []
skipped_nothing Lines zero = refl
skipped_nothing Lines (suc n) = refl
skipped_nothing Bytes zero = refl
skipped_nothing Bytes (suc n) = refl

tail_is : (counted : Counted) (origin : Origin) (n : ℕ) (x : List ℕ)
    → still_of counted origin (left_of origin n) [] x ≡ tail_of counted origin n x
tail_is Lines Beginning n x = refl
tail_is Bytes Beginning n x = refl
tail_is Lines End n x = refl
tail_is Bytes End n x = refl

pub skips_as : (counted counted' : Counted) (bytes : List ℕ) (n end left : ℕ) → counted ≡ counted'
    → SkipsTo counted' bytes n end left → SkipsTo counted bytes n end left
skips_as counted counted' bytes n end left e s =
    subst (λ (c : Counted). SkipsTo c bytes n end left) (sym e) s

-- a piece is kept, and what is no longer needed is left
pub end_feeds : (present closed : Bool) (counted counted' : Counted) (origin : Origin) (left : ℕ)
    (kept kept' piece ys : List ℕ) → origin ≡ End → counted' ≡ counted
    → ((zs : List ℕ) → last_of counted left (kept' ++ zs)
    ≡ last_of counted left ((kept ++ piece) ++ zs))
    → tail_still present closed counted origin left kept (piece ++ ys)
    ≡ tail_still present closed counted' origin left kept' ys
end_feeds present closed counted counted' Beginning left kept kept' piece ys e c last = absurd (cc)
end_feeds present closed counted counted' End left kept kept' piece ys e c last =
    ap (λ (x : List ℕ). cond (present && not closed) x [])
    (ap (λ (x : List ℕ). last_of counted left x) (sym (append_assoc kept piece ys))
    ∙ (sym (last ys) ∙ ap (λ (k : Counted). last_of k left (kept' ++ ys)) (sym c)))

pub still_closed : (present : Bool) (counted : Counted) (origin : Origin) (left : ℕ)
    (kept x : List ℕ) → tail_still present true counted origin left kept x ≡ []
still_closed true counted origin left kept x = refl
still_closed false counted origin left kept x = refl

still_present : (present closed : Bool) (counted : Counted) (origin : Origin) (left : ℕ)
    (kept x : List ℕ) → present ≡ true → closed ≡ false
    → tail_still present closed counted origin left kept x ≡ still_of counted origin left kept x
still_present present closed counted origin left kept x h k =
    ap (λ (b : Bool). cond (b && not closed) (still_of counted origin left kept x) []) h
    ∙ ap (λ (b : Bool). cond (not b) (still_of counted origin left kept x) []) k

-- at the end of the input nothing is left, if it counts from the beginning
pub beginning_ends : (present closed : Bool) (counted : Counted) (origin : Origin) (left : ℕ)
    (kept : List ℕ) → origin ≡ Beginning → present ≡ true → closed ≡ false
    → tail_still present closed counted origin left kept [] ≡ []
beginning_ends present closed counted Beginning left kept e h k =
    still_present present closed counted Beginning left kept [] h k ∙ skipped_nothing counted left
beginning_ends present closed counted End left kept e h k = absurd (cc)

-- and otherwise what follows the members that are too many
pub end_ends : (present closed : Bool) (counted : Counted) (origin : Origin) (left skip : ℕ)
    (kept : List ℕ) → origin ≡ End → present ≡ true → closed ≡ false
    → skip ≡ members_in counted kept - left
    → tail_still present closed counted origin left kept [] ≡ skipped counted skip kept
end_ends present closed counted Beginning left skip kept e h k s = absurd (cc)
end_ends present closed counted End left skip kept e h k s =
    still_present present closed counted End left kept [] h k
    ∙ (ap (λ (x : List ℕ). last_of counted left x) (append-nil kept)
    ∙ ap (λ (n : ℕ). skipped counted n kept) (sym s))

-- what a new machine writes
pub new_present : (counted : Counted) (origin : Origin) (n left : ℕ) (kept x : List ℕ)
    → left ≡ left_of origin n → kept ≡ []
    → tail_still true false counted origin left kept x
    ≡ flat_map (tail_of counted origin n) (x ∷ [])
new_present counted origin n left kept x l k =
    ap (λ (m : ℕ). still_of counted origin m kept x) l
    ∙ (ap (λ (y : List ℕ). still_of counted origin (left_of origin n) y x) k
    ∙ (tail_is counted origin n x ∙ sym (append-nil (tail_of counted origin n x))))

pub last_as : (counted counted1 : Counted) (left : ℕ) (kept' kept1 kept2 : List ℕ)
    → counted1 ≡ counted → kept1 ≡ kept2
    → ((zs : List ℕ) → last_of counted1 left (kept' ++ zs) ≡ last_of counted1 left (kept1 ++ zs))
    → (zs : List ℕ) → last_of counted left (kept' ++ zs) ≡ last_of counted left (kept2 ++ zs)
last_as counted counted1 left kept' kept1 kept2 e f last zs =
    ap (λ (k : Counted). last_of k left (kept' ++ zs)) (sym e)
    ∙ (last zs ∙ (ap (λ (x : List ℕ). last_of counted1 left (x ++ zs)) f
    ∙ ap (λ (k : Counted). last_of k left (kept2 ++ zs)) e))

none_before : (j : ℕ) → ((j == 0) && false) ≡ false
none_before j = and_right (j == 0) false refl

new_by : (here : Bool) (counted counted' : Counted) (origin : Origin) (n left : ℕ) (kept : List ℕ)
    (inputs : List Presence) → counted' ≡ counted → left ≡ left_of origin n → kept ≡ []
    → MatchBool here (inputs ≡ Present ∷ []) (inputs ≡ Missing ∷ []) → (ys : ℕ → List ℕ)
    → tail_still here false counted' origin left kept (ys 0)
    ≡ (tail_whole counted origin n (inputs_of inputs ys)).out
new_by true counted counted' origin n left kept inputs c l k h ys =
    ap (λ (d : Counted). tail_still true false d origin left kept (ys 0)) c
    ∙ (new_present counted origin n left kept (ys 0) l k
    ∙ ap (λ (ps : List Presence). (tail_whole counted origin n (inputs_of ps ys)).out) (sym h))
new_by false counted counted' origin n left kept inputs c l k h ys =
    ap (λ (ps : List Presence). (tail_whole counted origin n (inputs_of ps ys)).out) (sym h)

-- a new machine of tail
pub tail_new : (here : Bool) (counted counted' : Counted) (origin : Origin) (n left : ℕ)
    (kept : List ℕ) (inputs : List Presence) → length inputs ≡ 1 → counted' ≡ counted
    → left ≡ left_of origin n → kept ≡ []
    → MatchBool here (inputs ≡ Present ∷ []) (inputs ≡ Missing ∷ [])
    → IsNew (one_input false (tail_still here false counted' origin left kept) (λ x. 0))
    (tail_whole counted origin n) inputs
tail_new here counted counted' origin n left kept inputs one c l k h =
    record {
      inputs = sym one;
      unclosed = λ j. none_before j;
      rest = λ ys. new_by here counted counted' origin n left kept inputs c l k h ys;
      most = λ ys. omega arith;
    }

-- the same, by what the new input says of its end
pub tail_new_open : (here closed : Bool) (counted counted' : Counted) (origin : Origin) (n left : ℕ)
    (kept : List ℕ) (inputs : List Presence) → closed ≡ false → length inputs ≡ 1
    → counted' ≡ counted → left ≡ left_of origin n → kept ≡ []
    → MatchBool here (inputs ≡ Present ∷ []) (inputs ≡ Missing ∷ [])
    → IsNew (one_input closed (tail_still here closed counted' origin left kept) (λ x. 0))
    (tail_whole counted origin n) inputs
tail_new_open here closed counted counted' origin n left kept inputs shut one c l k h =
    subst (λ (b : Bool). IsNew (one_input b (tail_still here b counted' origin left kept) (λ x. 0))
    (tail_whole counted origin n) inputs) (sym shut)
    (tail_new here counted counted' origin n left kept inputs one c l k h)
