-- What the elements of tr's strings mean (POSIX.1-2017 XCU tr, EXTENDED DESCRIPTION).
use Rattle.std.specs.Prelude.{ℕ, ◌+◌, ◌-◌, List, [], ◌∷◌, ◌++◌, Bool, true, false, ◌==◌, ◌&&◌, not}
use Rattle.std.specs.Prelude.{Option, Some, None, length, nat_le, count_by, if◌then◌else◌}
use Rattle.std.specs.List.{flat_map, list_all, list_any, range_with_len, repeat}
use Rattle.tr_words.specs.Classes.{members}
use Rattle.tr_words.specs.Strings.{string_max}
use Rattle.tr_words.specs.declared.class.Class.{Class}
use Rattle.tr_words.specs.declared.class.Class.TheVariants.{Lower, Upper}
use Rattle.tr_words.specs.declared.element.Element.{Element}
use Rattle.tr_words.specs.declared.element.Element.TheVariants.{Byte, Range, OfClass, Equivalence}
use Rattle.tr_words.specs.declared.element.Element.TheVariants.{Repeat}
use Rattle.tr_words.specs.declared.expansion.Expansion.{Expansion}

-- the bytes of a range, rising
abbrev pub range : ℕ → ℕ → List ℕ
range first last = range_with_len first (last + 1 - first)

-- the bytes of an element, if a repeat for as often as needed is needed this often
abbrev pub written : ℕ → Element → List ℕ
written needed (Byte x) = x ∷ []
written needed (Range first last) = range first last
written needed (OfClass class) = members class
written needed (Equivalence x) = x ∷ []
written needed (Repeat x n) = repeat (if n == 0 then needed else n) (x ∷ [])

-- the class that an element is, if it is one, with the place at which its bytes begin
abbrev pub class_from : ℕ → Element → List (ℕ × Class)
class_from place (OfClass class) = (place, class) ∷ []
class_from place _ = []

-- the classes among elements, each with the place at which its bytes begin, if the first begins at
-- this place
abbrev pub classes : ℕ → ℕ → List Element → List (ℕ × Class)
classes needed place [] = []
classes needed place (e ∷ es) = class_from place e
    ++ classes needed (place + length (written needed e)) es

-- what elements mean, if it is not too long: their bytes, and the places at which classes begin
-- among them
abbrev pub expanded : ℕ → List Element → Option Expansion
expanded needed es =
    let bytes = flat_map (written needed) es in
    if nat_le (length bytes) string_max then Some (record {
      bytes = bytes;
      classes = classes needed 0 es;
    }) else None

-- whether it is a repeat
abbrev pub is_repeat : Element → Bool
is_repeat (Repeat x n) = true
is_repeat _ = false

-- whether it is an equivalence class
abbrev pub is_equivalence : Element → Bool
is_equivalence (Equivalence x) = true
is_equivalence _ = false

-- whether it is a repeat that is meant as often as needed
abbrev pub is_open : Element → Bool
is_open (Repeat x n) = n == 0
is_open _ = false

-- an element of a string that is only a set: there a repeat is its byte
abbrev pub as_member : Element → Element
as_member (Repeat x n) = Byte x
as_member e = e

-- whether one of two classes is `lower` and the other one `upper`
abbrev pub is_other : Class → Class → Bool
is_other Lower Upper = true
is_other Upper Lower = true
is_other _ _ = false

-- whether each class of the second string begins at the place of the other one in the first
abbrev pub are_paired : List (ℕ × Class) → List (ℕ × Class) → Bool
are_paired first second =
    list_all (λ (p : ℕ
    × Class). list_any (λ (q : ℕ × Class). (q.0 == p.0) && is_other q.1 p.1) first) second

-- whether a second string may hold these elements: no equivalence class, and one repeat at most
-- that is open
abbrev pub may_be_second : List Element → Bool
may_be_second es = not (list_any is_equivalence es) && nat_le (count_by is_open es) 1
