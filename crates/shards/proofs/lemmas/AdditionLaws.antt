-- The tables and sets of the commands that are added.
use Rattle.std.proofs.Common.{◌≡◌, ◌≢◌, ℕ, ◌<◌, Bool, true, false, eqb, List, map, set, length, get_or}
use Rattle.std.proofs.Common.{refl, ap, ◌∙◌, sym, arith, length-set, replicate}
use Rattle.std.proofs.lemmas.Bool.{eq-eqb, eqb-true, false≢true}
use Rattle.std.proofs.lemmas.List.{get_or-replicate, get_or-set_other, get_or-set_same}
use Rattle.std.proofs.lemmas.List.{length-replicate, map-id}
use Rattle.tr_words.proofs.TableLaws.{entries_are}
use Rattle.tr_words.specs.Classes.{all_bytes}

-- the table whose entries are the bytes themselves
pub own_entries : (table : List ℕ) → length table ≡ 256
    → ((x : ℕ) → x < 256 → get_or table x 0 ≡ x) → table ≡ all_bytes
own_entries table long h = entries_are (λ (b : ℕ). b) table 0 long h ∙ map-id all_bytes

apart : (x byte : ℕ) → eqb x byte ≡ false → x ≢ byte
apart x byte e same = false≢true (sym e ∙ eq-eqb x byte same)

-- the set of one byte
one_by : (b : Bool) (byte x : ℕ) → byte < 256 → x < 256 → eqb x byte ≡ b
    → get_or (set (replicate 256 false) byte true) x false ≡ b
one_by true byte x low within e =
    ap (λ (i : ℕ). get_or (set (replicate 256 false) byte true) i false) (eqb-true x byte e)
    ∙ get_or-set_same (replicate 256 false) byte true false
    (omega (arith, low, length-replicate 256 false))
one_by false byte x low within e =
    get_or-set_other (replicate 256 false) byte x true false (apart x byte e)
    ∙ get_or-replicate 256 x false false within

pub one_entry : (byte : ℕ) → byte < 256
    → set (replicate 256 false) byte true ≡ map (λ (b : ℕ). eqb b byte) all_bytes
one_entry byte low =
    entries_are (λ (b : ℕ). eqb b byte) (set (replicate 256 false) byte true) false
    (length-set (replicate 256 false) byte true ∙ length-replicate 256 false)
    (λ x within. one_by (eqb x byte) byte x low within refl)
