-- Refusals that are carried from a part to the whole.
use Rattle.std.proofs.Common.{◌≡◌, ◌≤◌, ℕ, Bool, true, false, List, length, Option, Some, None, inl}
use Rattle.std.proofs.Common.{inr, Result, Ok, Err, arith, refl, sym, ap, subst, ◌∙◌}
use Rattle.std.specs.Prelude.{slice_get}
use Rattle.pipeline_text.specs.declared.fault.TextFaultKind.{TextFaultKind}
use Rattle.pipeline_text.specs.declared.fault.TextFaultKind.TheVariants as kind
use Rattle.pipeline_text.specs.declared.fault.TextFault.{TextFault}
use Rattle.pipeline_text.specs.declared.moves.Ahead.{Ahead}
use Rattle.pipeline_text.specs.Refusals.{IsCause, IsRefusal}
use Rattle.pipeline_text.specs.inner.Parses.{IsBlamed, IsSomeRefusal}
use Rattle.pipeline_text.specs.inner.Lexemes.{Reads, GoesOn, text_of, extent}
use Rattle.pipeline_text.specs.declared.lexer.Lexer.{Lexer}
use Rattle.pipeline_text.specs.inner.Scans.{IsFlaw, IsAhead}

caused : {A B : Type 0} (k : TextFaultKind) (text : List ℕ) (offset : ℕ) (a : Option A)
    (b : Option B) → (a ≡ None → b ≡ None) → IsCause k text offset a → IsCause k text offset b
caused kind.UnclosedQuote text offset a b h r = h r
caused kind.Expansion text offset a b h r = h r
caused kind.UnsupportedOperator text offset a b h r = h r
caused kind.RedirectWithoutWord text offset a b h r = h r
caused kind.EmptyCommand text offset a b h r = h r
caused kind.Assignment text offset a b h r = h r
caused kind.NoForeground text offset a b h r = h r
caused kind.OneAfterAnother text offset a b h r = h r
caused kind.NulByte text offset a b h r = (r.0, h r.1)
caused kind.TooLong text offset a b h r = (r.0, h r.1)
caused kind.RedirectedTwice text offset a b h r = h r
caused kind.NoMemory text offset a b h r = tt

-- if the whole has no value without the part, a refusal of the part refuses the whole
pub refused : {A B : Type 0} (text : List ℕ) (f : TextFault) (a : Option A) (b : Option B)
    → (a ≡ None → b ≡ None) → IsRefusal text f a → IsRefusal text f b
refused text f a b h r = (r.0, caused f.kind text f.offset a b h r.1)

flaw_caused : {A : Type 0} (k : TextFaultKind) (text : List ℕ) (offset : ℕ) (a : Option A)
    → (k ≡ kind.NulByte → slice_get text offset ≡ Some 0) → (k ≡ kind.TooLong → ⊥) → a ≡ None
    → IsCause k text offset a
flaw_caused kind.UnclosedQuote text offset a z l n = n
flaw_caused kind.Expansion text offset a z l n = n
flaw_caused kind.UnsupportedOperator text offset a z l n = n
flaw_caused kind.RedirectWithoutWord text offset a z l n = n
flaw_caused kind.EmptyCommand text offset a z l n = n
flaw_caused kind.Assignment text offset a z l n = n
flaw_caused kind.NoForeground text offset a z l n = n
flaw_caused kind.OneAfterAnother text offset a z l n = n
flaw_caused kind.NulByte text offset a z l n = (z refl, n)
flaw_caused kind.TooLong text offset a z l n = absurd (l refl)
flaw_caused kind.RedirectedTwice text offset a z l n = n
flaw_caused kind.NoMemory text offset a z l n = tt

-- a fault that a text has refuses whatever has no value
pub flawed : {A : Type 0} (text : List ℕ) (f : TextFault) (a : Option A) → IsFlaw text f → a ≡ None
    → IsRefusal text f a
flawed text f a flaw n =
    (flaw.within, flaw_caused f.kind text f.offset a flaw.at_nul flaw.not_long n)

-- what is ahead is ahead in an equal text
pub ahead_in : (text text' : List ℕ) (a : Ahead) → text' ≡ text → IsAhead text a → IsAhead text' a
ahead_in text text' a e h = subst (λ (t : List ℕ). IsAhead t a) (sym e) h

pub within_in : (text text' : List ℕ) (n : ℕ) → text' ≡ text → n ≤ length text → n ≤ length text'
within_in text text' n e h = subst (λ (t : List ℕ). n ≤ length t) (sym e) h

pub not_below_zero : (n : ℕ) → 0 ≤ n
not_below_zero n = omega arith

pub flawed_in : {A : Type 0} (text text' : List ℕ) (f : TextFault) (a : Option A) → text' ≡ text
    → IsFlaw text' f → a ≡ None → IsRefusal text f a
flawed_in text text' f a e flaw n = subst (λ (t : List ℕ). IsRefusal t f a) e
    (flawed text' f a flaw n)

-- What was read of a part was read of the whole.
pub reads_then : {X A B C D : Type 0} (text text' : List ℕ) (r : Result X TextFault) (a : Option A)
    (f : X → Option B → Option A) (b : Option B)
    (c : Option C) (g : X → Option D → Option C) (d : Option D) → text ≡ text' → Reads text r a f b
    → ((x : X) → a ≡ f x b → c ≡ g x d) → (a ≡ None → c ≡ None) → Reads text' r c g d
reads_then text text' (Ok x) a f b c g d e h k n = k x h
reads_then text text' (Err fault) a f b c g d e h k n =
    subst (λ (t : List ℕ). IsRefusal t fault c) e (refused text fault a c n h)

-- the same if it ends in a refusal
pub refused_in : {A B : Type 0} (text text' : List ℕ) (f : TextFault) (a : Option A) (b : Option B)
    → text ≡ text' → (a ≡ None → b ≡ None) → IsRefusal text f a → IsRefusal text' f b
refused_in text text' f a b e n h = subst (λ (t : List ℕ). IsRefusal t f b) e
    (refused text f a b n h)

abbrev pub is_plain_kind : TextFaultKind → Bool
is_plain_kind kind.NulByte = false
is_plain_kind kind.TooLong = false
is_plain_kind _ = true

plain_caused : {A : Type 0} (k : TextFaultKind) (text : List ℕ) (offset : ℕ) (a : Option A)
    → is_plain_kind k ≡ true → a ≡ None → IsCause k text offset a
plain_caused k text offset a p n = flaw_caused k text offset a
    (λ e. absurd (let w : is_plain_kind kind.NulByte ≡ true = sym (ap is_plain_kind e) ∙ p in cc))
    (λ e. absurd (let w : is_plain_kind kind.TooLong ≡ true = sym (ap is_plain_kind e) ∙ p in cc)) n

-- a fault of any other kind refuses whatever has no value
pub refuses : {A : Type 0} (text : List ℕ) (f : TextFault) (k : TextFaultKind) (a : Option A)
    → f.kind ≡ k → is_plain_kind k ≡ true → f.offset ≤ length text → a ≡ None → IsRefusal text f a
refuses text f k a e p w n = (w, plain_caused f.kind text f.offset a (ap is_plain_kind e ∙ p) n)

-- ---- a reader that goes on

pub goes_from : (a b c d : Lexer) → GoesOn a b → c ≡ b → GoesOn c d → GoesOn a d
goes_from a b c d h e k = record {
  text = k.text ∙ ap text_of e
      ∙ h.text;
  shorter = let f : extent c ≡ extent b = ap extent e in omega arith;
}

cause_none : {A : Type 0} (k : TextFaultKind) (text : List ℕ) (offset : ℕ) (a : Option A)
    → (k ≡ kind.NoMemory → ⊥) → IsCause k text offset a → a ≡ None
cause_none kind.UnclosedQuote text offset a h r = r
cause_none kind.Expansion text offset a h r = r
cause_none kind.UnsupportedOperator text offset a h r = r
cause_none kind.RedirectWithoutWord text offset a h r = r
cause_none kind.EmptyCommand text offset a h r = r
cause_none kind.Assignment text offset a h r = r
cause_none kind.NoForeground text offset a h r = r
cause_none kind.OneAfterAnother text offset a h r = r
cause_none kind.NulByte text offset a h r = r.1
cause_none kind.TooLong text offset a h r = r.1
cause_none kind.RedirectedTwice text offset a h r = r
cause_none kind.NoMemory text offset a h r = absurd (h refl)

-- what is blamed in place of a refusal refuses as much
pub blamed : {A : Type 0} (text : List ℕ) (f g : TextFault) (a : Option A) → IsBlamed f g
    → IsRefusal text f a → IsRefusal text g a
blamed text f g a h r = elim h [
  | inl e ↦ subst (λ (x : TextFault). IsRefusal text x a) (sym e) r
  | inr b ↦ let w = r.0 in let v = b.1 in
      refuses text g kind.UnsupportedOperator a b.2 refl (omega arith)
      (cause_none f.kind text f.offset a b.0 r.1)
]

-- a refusal of what has no value
pub some_refusal : {A : Type 0} (text : List ℕ) (f : TextFault) (a : Option A)
    → IsSomeRefusal text f → a ≡ None → IsRefusal text f a
some_refusal text f a h n = refused {A = ℕ} text f None a (λ _. n) h
