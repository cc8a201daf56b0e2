-- Texts that mean bytes.
use Rattle.std.proofs.Common.{◌≡◌, ◌∙◌, ℕ, suc, ◌%◌, ◌<◌, List, [], ◌∷◌, Result, Ok, Err, true, ap}
use Rattle.std.proofs.Common.{arith, get_or, map, refl, String, string_bytes}
use Rattle.std.specs.Prelude.{IfOk}
use Rattle.std.specs.Char.{IsScalar}
use Rattle.std.specs.Str.{all_scalars}
use Rattle.std.proofs.lemmas.Str.{chars-encodes}
use Rattle.command_line.specs.Words.{bytes_of_text, character_of, text_of_bytes}

-- a byte has a character
is_scalar : (byte : ℕ) → byte < 256 → IsScalar (character_of byte)
is_scalar byte fits = grind arith

-- the number of its character, modulo 256, is the byte
byte_back : (byte : ℕ) → byte < 256 → character_of byte % 256 ≡ byte
byte_back byte fits = grind arith

-- bytes have characters
are_scalars : (bytes : List ℕ) → ((i : ℕ) → get_or bytes i 0 < 256)
    → all_scalars (map character_of bytes) ≡ true
are_scalars [] fits = refl
are_scalars (byte ∷ bytes) fits = rw (is_scalar byte (fits 0))
    (are_scalars bytes (λ i. fits (suc i)))

-- the numbers of their characters, modulo 256, are the bytes
bytes_back : (bytes : List ℕ) → ((i : ℕ) → get_or bytes i 0 < 256)
    → map (λ number. number % 256) (map character_of bytes) ≡ bytes
bytes_back [] fits = refl
bytes_back (byte ∷ bytes) fits =
    rw (byte_back byte (fits 0), bytes_back bytes (λ i. fits (suc i))) refl

-- the text of the bytes means them
text_back : (bytes : List ℕ) → ((i : ℕ) → get_or bytes i 0 < 256)
    → bytes_of_text (text_of_bytes bytes) ≡ bytes
text_back bytes fits = ap (map (λ number. number % 256))
    (chars-encodes (map character_of bytes) (are_scalars bytes fits)) ∙ bytes_back bytes fits

-- the same, of a text that was made if memory was to be had
pub made_back : {Z E : Type 0} (bytes : List ℕ) → ((i : ℕ) → get_or bytes i 0 < 256)
    → (made : Result (String Z) E) →
    IfOk made (λ text. string_bytes text ≡ text_of_bytes bytes)
    → IfOk made (λ text. bytes_of_text (string_bytes text) ≡ bytes)
made_back bytes fits (Ok text) is = ap bytes_of_text is ∙ text_back bytes fits
made_back bytes fits (Err error) is = tt
