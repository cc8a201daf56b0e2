-- After each event, and after none, an end goes on; and an end that goes on has no fewer events.
use Rattle.std.proofs.Common.{◌≡◌, ℕ, ◌<◌, ◌≤◌, List, [], ◌∷◌, length, cond, Bool, true, false, sym}
use Rattle.std.proofs.Common.{refl, ◌∙◌, ap, arith, length-append}
use Rattle.std.proofs.lemmas.List.{append-nil, length_push}
use Rattle.std.proofs.lemmas.List.Sums.{sum_by-cons}
use Rattle.std.specs.List.{AllZip}
use Rattle.machine.specs.declared.piece.Item.{Item}
use Rattle.bounded_pipe.specs.Ends.{Writing, Reading, WritesOn, ReadsOn}
use Rattle.bounded_pipe.specs.Events.{Puts, Notes, Takes, HangsUp, SameWriting, SameReading}
use Rattle.bounded_pipe.specs.Events.{StillWriting, StillReading}
use Rattle.bounded_pipe.proofs.Records.{writes_on_reflexive, writes_on_transitive}
use Rattle.bounded_pipe.proofs.Records.{reads_on_reflexive}
use Rattle.bounded_pipe.specs.Pipes.{events_of_writing, events_of_reading}
use Rattle.stages.specs.Outlets.{writes}
use Rattle.stages.proofs.Lists.{zip_refl, zip_trans, zip_weaker}

-- a writing end
pub puts_on : (item : Item) (a b : Writing) → Puts item a b → WritesOn a b
puts_on item a b p = record {
  pipe = p.pipe;
  capacity = p.capacity;
  limit = p.limit;
  put =
      (item ∷ [], sym p.put);
  noted = λ h. p.noted ∙ h;
  counted = p.counted;
}

pub notes_on : (a b : Writing) → Notes a b → WritesOn a b
notes_on a b n = record {
  pipe = n.pipe;
  capacity = n.capacity;
  limit = n.limit;
  put =
      ([], append-nil a.put ∙ sym n.put);
  noted = λ h. n.noted;
  counted = n.counted;
}

pub same_writes_on : (a b : Writing) → SameWriting a b → WritesOn a b
same_writes_on a b s = record {
  pipe = s.pipe;
  capacity = s.capacity;
  limit = s.limit;
  put =
      ([], append-nil a.put ∙ sym s.put);
  noted = λ h. s.noted ∙ h;
  counted = s.counted;
}

pub same_writing : (a : Writing) → SameWriting a a
same_writing a = record {
  pipe = refl;
  capacity = refl;
  limit = refl;
  put = refl;
  noted =
      refl;
  counted = λ h. h;
}

pub same_still : (a b : Writing) → SameWriting a b → StillWriting a b
same_still a b s = record { limit = s.limit; put = s.put; noted = s.noted }

pub still_writing : (a : Writing) → StillWriting a a
still_writing a = record { limit = refl; put = refl; noted = refl }

pub same_writing_trans : (a b c : Writing) → SameWriting a b → SameWriting b c → SameWriting a c
same_writing_trans a b c s t = record {
  pipe = t.pipe ∙ s.pipe;
  capacity = t.capacity
      ∙ s.capacity;
  limit = t.limit ∙ s.limit;
  put = t.put ∙ s.put;
  noted = t.noted
      ∙ s.noted;
  counted = λ h. t.counted (s.counted h);
}

-- a reading end
pub takes_on : (item : Item) (a b : Reading) → Takes item a b → ReadsOn a b
takes_on item a b t = record {
  pipe = t.pipe;
  taken = (item ∷ [], sym t.taken);
  hung_up =
      λ h. t.hung_up ∙ h;
  told = t.told;
}

pub hangs_up_on : (a b : Reading) → HangsUp a b → ReadsOn a b
hangs_up_on a b h = record {
  pipe = h.pipe;
  taken =
      ([], append-nil a.taken ∙ sym h.taken);
  hung_up = λ x. h.hung_up;
  told = h.told;
}

pub same_reads_on : (a b : Reading) → SameReading a b → ReadsOn a b
same_reads_on a b s = record {
  pipe = s.pipe;
  taken =
      ([], append-nil a.taken ∙ sym s.taken);
  hung_up = λ h. s.hung_up ∙ h;
  told = s.told;
}

pub same_reading : (a : Reading) → SameReading a a
same_reading a = record { pipe = refl; taken = refl; hung_up = refl; told = λ h. h }

pub same_still_reading : (a b : Reading) → SameReading a b → StillReading a b
same_still_reading a b s = record { taken = s.taken; hung_up = s.hung_up }

pub still_reading : (a : Reading) → StillReading a a
still_reading a = record { taken = refl; hung_up = refl }

-- all ends of a stage
pub all_still : (xs ys : List Writing) → AllZip SameWriting xs ys → AllZip StillWriting xs ys
all_still xs ys a = zip_weaker SameWriting StillWriting same_still xs ys a

pub all_still_reading : (xs ys : List Reading) → AllZip SameReading xs ys
    → AllZip StillReading xs ys
all_still_reading xs ys a = zip_weaker SameReading StillReading same_still_reading xs ys a

pub all_write_on : (ws : List Writing) → AllZip WritesOn ws ws
all_write_on ws = zip_refl WritesOn writes_on_reflexive ws

pub all_read_on : (rs : List Reading) → AllZip ReadsOn rs rs
all_read_on rs = zip_refl ReadsOn reads_on_reflexive rs

pub all_write_on_on : (xs ys zs : List Writing) → AllZip WritesOn xs ys → AllZip WritesOn ys zs
    → AllZip WritesOn xs zs
all_write_on_on xs ys zs a b =
    zip_trans WritesOn WritesOn WritesOn writes_on_transitive xs ys zs a b

pub all_same_read_on : (xs ys : List Reading) → AllZip SameReading xs ys → AllZip ReadsOn xs ys
all_same_read_on xs ys a = zip_weaker SameReading ReadsOn same_reads_on xs ys a

pub all_same : (ws : List Writing) → AllZip SameWriting ws ws
all_same ws = zip_refl SameWriting same_writing ws

pub all_same_trans : (xs ys zs : List Writing) → AllZip SameWriting xs ys → AllZip SameWriting ys zs
    → AllZip SameWriting xs zs
all_same_trans xs ys zs a b =
    zip_trans SameWriting SameWriting SameWriting same_writing_trans xs ys zs a b

-- the number of events
pub bit_more : (a b : Bool) → (a ≡ true → b ≡ true) → cond a 1 0 ≤ cond b 1 0
bit_more true true h = omega arith
bit_more true false h = let e = h refl in absurd (cc)
bit_more false b h = omega arith

pub no_fewer_writes : (a b : Writing) → WritesOn a b → events_of_writing a ≤ events_of_writing b
no_fewer_writes a b w =
    let e = ap (λ l. length l) w.put.1 in
    let f = length-append a.put w.put.0 in
    omega (arith, e, f, bit_more a.noted b.noted w.noted)

pub all_no_fewer : (xs ys : List Writing) → AllZip WritesOn xs ys → writes xs ≤ writes ys
all_no_fewer [] [] a = omega arith
all_no_fewer (x ∷ xs) (y ∷ ys) a =
    omega (
      arith,
      sum_by-cons events_of_writing x xs,
      sum_by-cons events_of_writing y ys,
      no_fewer_writes x y a.0,
      all_no_fewer xs ys a.1,
    )
all_no_fewer _ _ a = absurd a

pub put_is_more : (item : Item) (a b : Writing) → Puts item a b
    → events_of_writing a < events_of_writing b
put_is_more item a b p =
    let e = ap (λ l. length l) p.put in
    let n = ap {B = ℕ} (λ x. cond x 1 0) p.noted in
    omega (arith, e, n, length_push a.put item)

pub note_is_more : (a b : Writing) → a.noted ≡ false → Notes a b
    → events_of_writing a < events_of_writing b
note_is_more a b h p =
    let e = ap (λ l. length l) p.put in
    let n = ap {B = ℕ} (λ x. cond x 1 0) p.noted in
    let m = ap {B = ℕ} (λ x. cond x 1 0) h in
    omega (arith, e, n, m)

pub take_is_more : (item : Item) (a b : Reading) → Takes item a b
    → events_of_reading a < events_of_reading b
take_is_more item a b t =
    let e = ap (λ l. length l) t.taken in
    let n = ap {B = ℕ} (λ x. cond x 1 0) t.hung_up in
    omega (arith, e, n, length_push a.taken item)
