-- The tokens of marks.
use Rattle.std.proofs.Common.{◌≡◌, ℕ, zero, suc, ◌≤◌, Bool, true, false, not, cond, List, [], ◌∷◌}
use Rattle.std.proofs.Common.{◌++◌, length, drop, Option, Some, None, inl, inr, eqb, refl, sym, ap}
use Rattle.std.proofs.Common.{◌∙◌, append_assoc, arith, length-drop}
use Rattle.std.proofs.Math.Bool.{and_assoc}
use Rattle.pipeline_text.specs.ShellBytes.{ends_word, begins_name, continues_name}
use Rattle.pipeline_text.specs.declared.mark.Mark.{Mark}
use Rattle.pipeline_text.specs.declared.mark.Mark.TheVariants.{Plain, Quoted, Quote}
use Rattle.pipeline_text.specs.declared.moves.Ahead.{Ahead}
use Rattle.pipeline_text.specs.declared.moves.Ahead.TheVariants as ahead
use Rattle.pipeline_text.specs.declared.shape.Naming.{Naming}
use Rattle.pipeline_text.specs.declared.shape.Naming.TheVariants.{Begins, Continues, Assigns, Fails}
use Rattle.pipeline_text.specs.declared.shape.Shape.{Shape}
use Rattle.pipeline_text.specs.declared.token.Operator.{Operator}
use Rattle.pipeline_text.specs.declared.token.Token.{Token}
use Rattle.pipeline_text.specs.declared.token.Token.TheVariants as token
use Rattle.command_words.specs.Texts.{◌>>=◌}
use Rattle.pipeline_text.specs.inner.Scans.{left, with_mark}
use Rattle.pipeline_text.specs.Tokens.{is_blank, goes_on, is_plain, is_digit, is_assignment}
use Rattle.pipeline_text.specs.Tokens.{byte_of, value, all_marks, word, after_word, plain_head}
use Rattle.pipeline_text.specs.Tokens.{look_of, word_token, operator, operator_at, word_at}
use Rattle.pipeline_text.specs.Tokens.{operator_token, token_at, with_token, tokens_in, tokens}
use Rattle.pipeline_text.specs.inner.Peeks.{word_goes, plain_ahead, word_mark, byte_in}
use Rattle.pipeline_text.specs.inner.Peeks.{blank_is_next, assigns, named, shaped, no_shape}
use Rattle.pipeline_text.specs.inner.Lexemes.{part_before}
use Rattle.pipeline_text.proofs.lemmas.Moved.{cases}

pub bind_same : {A B : Type 0} (o : Option A) (f g : A → Option B)
    → ((a : A) → o ≡ Some a → f a ≡ g a) → (o >>= f) ≡ (o >>= g)
bind_same None f g h = refl
bind_same (Some a) f g h = h a refl

-- ---- the token in front takes at least its first mark

after_word-length : (x : List Mark) → length (after_word x) ≤ length x
after_word-length [] = omega arith
after_word-length (m ∷ x) =
    let h = after_word-length x in
    elim (cases (goes_on m)) [
      | inl e ↦ rw e (omega arith)
      | inr e ↦ rw e (omega arith)
    ]

operator-length : (x : List Mark) (o : Option (Operator × Bool)) (t : Token × List Mark)
    → operator_token (o >>= λ (o : Operator × Bool). Some (o.0, cond o.1 (drop 1 x) x)) ≡ Some t
    → length t.1 ≤ length x
operator-length x None t e = absurd cc
operator-length x (Some (o, true)) t e =
    let p : Token × List Mark = (token.Operator o, drop 1 x) in
    let q : p ≡ t = cc in
    omega (arith, ap (λ (t : Token × List Mark). length t.1) q, length-drop 1 x)
operator-length x (Some (o, false)) t e =
    let p : Token × List Mark = (token.Operator o, x) in
    let q : p ≡ t = cc in
    omega (arith, ap (λ (t : Token × List Mark). length t.1) q)

pub token_word : (m : Mark) (x : List Mark) → goes_on m ≡ true → token_at m x ≡ word_at (m ∷ x)
token_word (Plain b) x h = elim (cases (ends_word b)) [
  | inl e ↦
      absurd (let w : not (ends_word b) ≡ false = rw e refl in cc)
  | inr e ↦ rw e refl
]
token_word (Quoted b) x h = refl
token_word Quote x h = refl

pub token_operator : (m : Mark) (x : List Mark) → goes_on m ≡ false
    → token_at m x ≡ operator_token (operator_at (byte_in m) x)
token_operator (Plain b) x h = elim (cases (ends_word b)) [
  | inl e ↦ rw e refl
  | inr e ↦
      absurd (let w : not (ends_word b) ≡ true = rw e refl in cc)
]
token_operator (Quoted b) x h = absurd cc
token_operator Quote x h = absurd cc

word-length : (m : Mark) (x : List Mark) (t : Token × List Mark) → goes_on m ≡ true
    → word_at (m ∷ x) ≡ Some t → length t.1 ≤ length x
word-length m x t h e =
    let p : Token × List Mark = (
      word_token (value (word (m ∷ x)))
          (look_of (is_assignment (word (m ∷ x))) (all_marks is_plain (word (m ∷ x))))
          (all_marks is_digit (word (m ∷ x))) (plain_head (after_word (m ∷ x))),
      after_word (m ∷ x),
    ) in
    let q : p ≡ t = cc in
    let r : after_word (m ∷ x) ≡ after_word x = rw h refl in
    omega (arith, ap (λ (t : Token × List Mark). length t.1) q, ap length r, after_word-length x)

token-length : (m : Mark) (x : List Mark) (t : Token × List Mark) → token_at m x ≡ Some t
    → length t.1 ≤ length x
token-length m x t e =
    elim (cases (goes_on m)) [
      | inl h ↦ word-length m x t h (sym (token_word m x h) ∙ e)
      | inr h ↦ operator-length x (operator (byte_in m) (plain_head x)) t
          (sym (token_operator m x h) ∙ e)
    ]

enough : (n k : ℕ) (x : List Mark) → length x ≤ n → length x ≤ k → tokens_in n x ≡ tokens_in k x
unfolding tokens_in
enough zero zero [] h g = refl
enough zero (suc k) [] h g = refl
enough (suc n) zero [] h g = refl
enough (suc n) (suc k) [] h g = refl
enough zero k (m ∷ x) h g = absurd (omega arith)
enough (suc n) zero (m ∷ x) h g = absurd (omega arith)
enough (suc n) (suc k) (m ∷ x) h g =
    let blank : tokens_in n x ≡ tokens_in k x = enough n k x (omega arith) (omega arith) in
    let other : (token_at m x >>= λ (t : Token × List Mark). with_token t.0 (tokens_in n t.1))
    ≡ (token_at m x >>= λ (t : Token × List Mark). with_token t.0 (tokens_in k t.1)) =
    bind_same (token_at m x) (λ (t : Token × List Mark). with_token t.0 (tokens_in n t.1))
    (λ (t : Token × List Mark). with_token t.0 (tokens_in k t.1))
    (λ t e. let l = token-length m x t e in
    ap (with_token t.0) (enough n k t.1 (omega arith) (omega arith))) in
    λ i. cond (is_blank m) (blank i) (other i)

-- ---- the tokens, with no count

pub tokens-nil : tokens [] ≡ Some []
unfolding tokens tokens_in
tokens-nil = refl

pub tokens-cons : (m : Mark) (x : List Mark)
    → tokens (m ∷ x) ≡ cond (is_blank m) (tokens x)
    (token_at m x >>= λ (t : Token × List Mark). with_token t.0 (tokens t.1))
unfolding tokens tokens_in
tokens-cons m x =
    let other : (token_at m x >>= λ (t : Token × List Mark). with_token t.0
    (tokens_in (length x) t.1))
    ≡ (token_at m x >>= λ (t : Token × List Mark). with_token t.0 (tokens t.1)) =
    bind_same (token_at m x) (λ (t : Token × List Mark). with_token t.0 (tokens_in (length x) t.1))
    (λ (t : Token × List Mark). with_token t.0 (tokens t.1))
    (λ t e. let l = token-length m x t e in
    ap (with_token t.0) (enough (length x) (length t.1) t.1 l (omega arith))) in
    λ i. cond (is_blank m) (tokens x) (other i)

-- ---- what the lexer does

pub blank_skipped : (a : Ahead) (ms : Option (List Mark)) → true ≡ blank_is_next a
    → (left a ms >>= tokens) ≡ (ms >>= tokens)
blank_skipped (ahead.Mark m) None h = refl
blank_skipped (ahead.Mark m) (Some x) h = tokens-cons m x
    ∙ ap (λ (b : Bool). cond b (tokens x)
    (token_at m x >>= λ (t : Token × List Mark). with_token t.0 (tokens t.1))) (sym h)
blank_skipped ahead.End ms h = absurd cc
blank_skipped (ahead.Fault f) ms h = absurd cc

pub operator_one : (b : ℕ) (a : Ahead) (ms : Option (List Mark)) (o : Operator)
    → Some (o, false) ≡ operator b (plain_ahead a)
    → (left a ms >>= operator_at b) ≡ part_before o (left a ms)
operator_one b (ahead.Mark m) None o h = refl
operator_one b (ahead.Mark (Plain c)) (Some x) o h = rw (← h) refl
operator_one b (ahead.Mark (Quoted c)) (Some x) o h = rw (← h) refl
operator_one b (ahead.Mark Quote) (Some x) o h = rw (← h) refl
operator_one b ahead.End ms o h = rw (← h) refl
operator_one b (ahead.Fault f) ms o h = refl

same_operator : (o : Option (Operator × List Mark))
    → (operator_token o >>= λ (t : Token × List Mark). with_token t.0 (tokens t.1))
    ≡ (o >>= λ (o : Operator × List Mark). with_token (token.Operator o.0) (tokens o.1))
same_operator None = refl
same_operator (Some o) = refl

part_of : {A : Type 0} (a : A) (f : A → Token) (ms : Option (List Mark))
    → (part_before a ms >>= λ (t : A × List Mark). with_token (f t.0) (tokens t.1))
    ≡ with_token (f a) (ms >>= tokens)
part_of a f None = refl
part_of a f (Some x) = refl

-- the word in front is the token in front
word_read : (m : Mark) (ms : Option (List Mark)) → goes_on m ≡ true → is_blank m ≡ false
    → (with_mark m ms >>= tokens)
    ≡ ((with_mark m ms >>= word_goes [] no_shape) >>= λ (t : Token × List Mark). with_token t.0
    (tokens t.1))
word_read m None h k = refl
word_read m (Some x) h k = tokens-cons m x
    ∙ rw k
    (ap (λ (o : Option (Token × List Mark)). o >>= λ (t : Token × List Mark). with_token t.0
    (tokens t.1)) (token_word m x h))

operator_read : (m : Mark) (ms : Option (List Mark)) → goes_on m ≡ false → is_blank m ≡ false
    → (with_mark m ms >>= tokens)
    ≡ ((ms >>= operator_at (byte_in m)) >>= λ (o : Operator × List Mark). with_token
    (token.Operator o.0) (tokens o.1))
operator_read m None h k = refl
operator_read m (Some x) h k = tokens-cons m x
    ∙ rw k
    (ap (λ (o : Option (Token × List Mark)). o >>= λ (t : Token × List Mark). with_token t.0
    (tokens t.1)) (token_operator m x h) ∙ same_operator (operator_at (byte_in m) x))

-- whether a word assigns does not depend on how much of it was read
assigns-cons : (n : Naming) (m : Mark) (x : List Mark) → assigns n (m ∷ x) ≡ assigns (named n m) x
assigns-cons Begins (Plain b) x = elim (cases (begins_name b)) [
  | inl e ↦ rw e refl
  | inr e ↦
      rw e refl
]
assigns-cons Begins (Quoted b) x = refl
assigns-cons Begins Quote x = refl
assigns-cons Continues (Plain b) x =
    elim (cases (eqb b 61)) [
      | inl e ↦ rw e refl
      | inr e ↦ elim (cases (continues_name b)) [ inl f ↦ rw (e, f) refl | inr f ↦ rw (e, f) refl ]
    ]
assigns-cons Continues (Quoted b) x = refl
assigns-cons Continues Quote x = refl
assigns-cons Assigns (Plain b) x = refl
assigns-cons Assigns (Quoted b) x = refl
assigns-cons Assigns Quote x = refl
assigns-cons Fails (Plain b) x = refl
assigns-cons Fails (Quoted b) x = refl
assigns-cons Fails Quote x = refl

word_begun : (m : Mark) (x : List Mark) → goes_on m ≡ true
    → word_goes [] no_shape (m ∷ x) ≡ word_goes (byte_of m) (shaped no_shape m) x
word_begun m x h = rw (h, assigns-cons Begins m (word x)) refl

after_first : (m : Mark) (ms : Option (List Mark)) → goes_on m ≡ true
    → (with_mark m ms >>= word_goes [] no_shape)
    ≡ (ms >>= word_goes (byte_of m) (shaped no_shape m))
after_first m None h = refl
after_first m (Some x) h = word_begun m x h

-- after the word's first mark
pub word_taken : (a : Ahead) (m : Mark) (ms : Option (List Mark)) (t : Token)
    (new : Option (List Mark)) → a ≡ ahead.Mark m → blank_is_next a ≡ false → true ≡ goes_on m
    → (ms >>= word_goes (byte_of m) (shaped no_shape m)) ≡ part_before t new
    → (left a ms >>= tokens) ≡ with_token t (new >>= tokens)
word_taken a m ms t new e k h r =
    ap (λ (a : Ahead). left a ms >>= tokens) e
    ∙ word_read m ms (sym h) (ap blank_is_next (sym e) ∙ k)
    ∙ ap (λ (x : Option (Token × List Mark)). x >>= λ (t : Token × List Mark). with_token t.0
    (tokens t.1)) (after_first m ms (sym h) ∙ r)
    ∙ part_of t (λ (t : Token). t) new

-- after the operator's first byte
pub operator_taken : (a : Ahead) (m : Mark) (ms : Option (List Mark)) (o : Operator)
    (new : Option (List Mark)) → a ≡ ahead.Mark m → blank_is_next a ≡ false → false ≡ goes_on m
    → (ms >>= operator_at (byte_in m)) ≡ part_before o new
    → (left a ms >>= tokens) ≡ with_token (token.Operator o) (new >>= tokens)
operator_taken a m ms o new e k h r =
    ap (λ (a : Ahead). left a ms >>= tokens) e
    ∙ operator_read m ms (sym h) (ap blank_is_next (sym e) ∙ k)
    ∙ ap (λ (x : Option (Operator × List Mark)). x >>= λ (o : Operator × List Mark). with_token
    (token.Operator o.0) (tokens o.1)) r
    ∙ part_of o (λ (o : Operator). token.Operator o) new

-- there is no operator if its first byte was read
pub operator_none : (a : Ahead) (m : Mark) (ms : Option (List Mark)) → a ≡ ahead.Mark m
    → blank_is_next a ≡ false → false ≡ goes_on m
    → (ms >>= operator_at (byte_in m)) ≡ None → (left a ms >>= tokens) ≡ None
operator_none a m ms e k h n =
    ap (λ (a : Ahead). left a ms >>= tokens) e
    ∙ operator_read m ms (sym h) (ap blank_is_next (sym e) ∙ k)
    ∙ ap (λ (x : Option (Operator × List Mark)). x >>= λ (o : Operator × List Mark). with_token
    (token.Operator o.0) (tokens o.1)) n

-- the marks of the word have no value
pub word_none : (a : Ahead) (m : Mark) (ms : Option (List Mark)) → a ≡ ahead.Mark m
    → blank_is_next a ≡ false → true ≡ goes_on m
    → (ms >>= word_goes (byte_of m) (shaped no_shape m)) ≡ None → (left a ms >>= tokens) ≡ None
word_none a m ms e k h n =
    ap (λ (a : Ahead). left a ms >>= tokens) e
    ∙ word_read m ms (sym h) (ap blank_is_next (sym e) ∙ k)
    ∙ ap (λ (x : Option (Token × List Mark)). x >>= λ (t : Token × List Mark). with_token t.0
    (tokens t.1)) (after_first m ms (sym h) ∙ n)

-- ---- a word, mark by mark

one_more : (bytes : List ℕ) (s : Shape) (m : Mark) (x : List Mark) → goes_on m ≡ true
    → word_goes bytes s (m ∷ x) ≡ word_goes (bytes ++ byte_of m) (shaped s m) x
one_more bytes s m x h =
    rw (
      h,
      assigns-cons s.naming m (word x),
      append_assoc bytes (byte_of m) (value (word x)),
      and_assoc s.plain (is_plain m) (all_marks is_plain (word x)),
      and_assoc s.digits (is_digit m) (all_marks is_digit (word x)),
    ) refl

goes_of : (m n : Mark) → Some n ≡ cond (goes_on m) (Some m) None → (goes_on m ≡ true) × (m ≡ n)
goes_of m n e = elim (cases (goes_on m)) [
  | inl h ↦ (h, (let k : Some n ≡ Some m = rw h at e in cc))
  | inr h ↦ absurd (let k : Some n ≡ None = rw h at e in cc)
]

-- the next mark goes on with the word
pub word_more : (bytes : List ℕ) (s : Shape) (a : Ahead) (m : Mark) (ms : Option (List Mark))
    → Some m ≡ word_mark a
    → (left a ms >>= word_goes bytes s) ≡ (ms >>= word_goes (bytes ++ byte_of m) (shaped s m))
word_more bytes s (ahead.Mark n) m None h = refl
word_more bytes s (ahead.Mark n) m (Some x) h =
    let g = goes_of n m h in
    one_more bytes s n x g.0 ∙ ap (λ (m : Mark). word_goes (bytes ++ byte_of m) (shaped s m) x) g.1
word_more bytes s ahead.End m ms h = absurd cc
word_more bytes s (ahead.Fault f) m ms h = absurd cc

-- one more mark of the word was read
pub word_step : (bytes bytes' : List ℕ) (s s' : Shape) (a : Ahead) (m : Mark)
    (ms old : Option (List Mark)) → Some m ≡ word_mark a → bytes' ≡ bytes ++ byte_of m
    → s' ≡ shaped s m → old ≡ left a ms
    → (ms >>= word_goes bytes' s') ≡ (old >>= word_goes bytes s)
word_step bytes bytes' s s' a m ms old h e k o =
    ap (λ (b : List ℕ). ms >>= word_goes b s') e
    ∙ ap (λ (t : Shape). ms >>= word_goes (bytes ++ byte_of m) t) k
    ∙ sym (word_more bytes s a m ms h)
    ∙ ap (λ (x : Option (List Mark)). x >>= word_goes bytes s) (sym o)
