-- Laws of the records of the two ends.
use Rattle.std.proofs.Common.{◌≡◌, ℕ, ◌+◌, ◌<◌, ◌⊎◌, inl, inr, ⊎_elim, List, [], ◌∷◌, ◌++◌, length}
use Rattle.std.proofs.Common.{IsFalse, refl, sym, ◌∙◌, ap, append_assoc, length-append, arith}
use Rattle.std.proofs.lemmas.List.{append-nil}
use mathlib.Core.List.{IsPrefix}
use Rattle.bounded_pipe.specs.Sizes.{size_of}
use Rattle.machine.specs.declared.piece.Item.{Item}
use Rattle.bounded_pipe.specs.Events.{Puts, Notes, Takes, SameReading}
use Rattle.bounded_pipe.specs.Ends.{Writing, Reading, AreEnds, WritesOn, ReadsOn, IsCounted, IsTold}
use Rattle.bounded_pipe.specs.Ends.{Consistent, SeeEachOther, Beside, KnowsFull, LacksRoom, IsEmpty}
use Rattle.bounded_pipe.proofs.SizeLaws.{size_of_append}

-- a list is a prefix of itself
pub prefix_reflexive : {A : Type 0} (a : List A) → IsPrefix a a
prefix_reflexive a = ([], append-nil a)

-- a prefix of a prefix is a prefix
pub prefix_transitive : {A : Type 0} (a b c : List A) → IsPrefix a b → IsPrefix b c → IsPrefix a c
prefix_transitive a b c h k = (
  h.0 ++ k.0,
  sym (append_assoc a h.0 k.0)
      ∙ (ap (λ x. x ++ k.0) h.1 ∙ k.1),
)

-- a list is a prefix of itself with more after it
pub prefix_more : {A : Type 0} (a b : List A) (x : A) → b ≡ a ++ x ∷ [] → IsPrefix a b
prefix_more a b x e = (x ∷ [], sym e)

-- a prefix stays one after the same list
pub prefix_behind : {A : Type 0} (a b c : List A) → IsPrefix b c → IsPrefix (a ++ b) (a ++ c)
prefix_behind a b c h = (h.0, append_assoc a b h.0 ∙ ap (λ l. a ++ l) h.1)

-- what comes after the same list is the same
pub cancel : {A : Type 0} (a b c : List A) → a ++ b ≡ a ++ c → b ≡ c
cancel [] b c e = e
cancel (x ∷ a) b c e = cancel a b c (cc e)

-- a writing end goes on from its own record
pub writes_on_reflexive : (a : Writing) → WritesOn a a
writes_on_reflexive a = record {
  pipe = refl;
  capacity = refl;
  limit = refl;
  put =
      prefix_reflexive a.put;
  noted = λ h. h;
  counted = λ h. h;
}

-- what goes on from a record that goes on from the first goes on from the first
pub writes_on_transitive : (a b c : Writing) → WritesOn a b → WritesOn b c → WritesOn a c
writes_on_transitive a b c h k = record {
  pipe = k.pipe ∙ h.pipe;
  capacity = k.capacity ∙ h.capacity;
  limit = k.limit ∙ h.limit;
  put = prefix_transitive a.put b.put c.put h.put k.put;
  noted = λ n. k.noted (h.noted n);
  counted = λ n. k.counted (h.counted n);
}

-- a reading end goes on from its own record
pub reads_on_reflexive : (a : Reading) → ReadsOn a a
reads_on_reflexive a = record {
  pipe = refl;
  taken = prefix_reflexive a.taken;
  hung_up =
      λ h. h;
  told = λ h. h;
}

-- likewise of reading ends
pub reads_on_transitive : (a b c : Reading) → ReadsOn a b → ReadsOn b c → ReadsOn a c
reads_on_transitive a b c h k = record {
  pipe = k.pipe ∙ h.pipe;
  taken = prefix_transitive a.taken b.taken c.taken h.taken k.taken;
  hung_up = λ n. k.hung_up (h.hung_up n);
  told = λ n. k.told (h.told n);
}

-- after an item more an end goes on
pub puts_on : (item : Item) (a b : Writing) → Puts item a b → WritesOn a b
puts_on item a b p = record {
  pipe = p.pipe;
  capacity = p.capacity;
  limit = p.limit;
  put =
      (item ∷ [], sym p.put);
  noted = λ h. p.noted ∙ h;
  counted = p.counted;
}

pub takes_on : (item : Item) (a b : Reading) → Takes item a b → ReadsOn a b
takes_on item a b t = record {
  pipe = t.pipe;
  taken = (item ∷ [], sym t.taken);
  hung_up =
      λ h. t.hung_up ∙ h;
  told = t.told;
}

-- and so it does if nothing happened
pub same_reads_on : (a b : Reading) → SameReading a b → ReadsOn a b
same_reads_on a b s = record {
  pipe = s.pipe;
  taken =
      ([], append-nil a.taken ∙ sym s.taken);
  hung_up = λ h. s.hung_up ∙ h;
  told = s.told;
}

-- two ends that go on are still the ends of one pipe
pub ends_go_on : (a b : Writing) (c d : Reading) → AreEnds a c → WritesOn a b → ReadsOn c d
    → AreEnds b d
ends_go_on a b c d ends writes reads = writes.pipe ∙ (ends ∙ sym reads.pipe)

-- ends that have just met see each other
pub beside_sees : (w : Writing) (r : Reading) → Beside w r → SeeEachOther w r
beside_sees w r b = b.sees

-- the lengths of what is in between
pub sees_lengths : (w : Writing) (r : Reading) → SeeEachOther w r
    → length w.put ≡ length r.taken + length r.known
sees_lengths w r b = ap (λ s. length s) b.between ∙ length-append r.taken r.known

pub beside_lengths : (w : Writing) (r : Reading) → Beside w r
    → length w.put ≡ length r.taken + length r.known
beside_lengths w r b = sees_lengths w r b.sees

-- the bytes of what is in between
pub sees_sizes : (w : Writing) (r : Reading) → SeeEachOther w r
    → size_of w.put ≡ size_of r.taken + size_of r.known
sees_sizes w r b = ap (λ s. size_of s) b.between ∙ size_of_append r.taken r.known

-- ends that have just met are consistent
pub beside_consistent : (w : Writing) (r : Reading) → Beside w r → Consistent w r
beside_consistent w r b = let s = b.sees in record {
  pipe = s.ends;
  order = (r.known, sym s.between);
  within = omega (arith, beside_lengths w r b, s.within);
  light = let sizes = sees_sizes w r s in omega (arith, sizes, b.count, b.light);
  noted = s.noted;
}

-- if each end has seen all that the other did, a writer that knows of no room has a full pipe
pub sees_full : (size : ℕ) (w : Writing) (r : Reading) → SeeEachOther w r → KnowsFull size w
    → LacksRoom size w r
sees_full size w r b (inl none) = inl (omega (arith, sees_lengths w r b, b.within, b.room, none))
sees_full size w r b (inr much) = inr (let s = sees_sizes w r b in omega (arith, s, b.count, much))

-- also if it noted a hang-up since
pub full_once_noted : (size : ℕ) (w w' : Writing) (r : Reading) → SeeEachOther w r → Notes w w'
    → w'.free ≡ w.free → w'.count ≡ w.count → KnowsFull size w' → LacksRoom size w' r
full_once_noted size w w' r b n free count k =
    let knew : KnowsFull size w = ⊎_elim (λ none. inl (sym free ∙ none))
    (λ much. inr (let l = n.limit in omega (arith, much, count, l))) k in
    let puts = ap (λ (l : List Item). length l) n.put in
    let sizes = ap (λ (l : List Item). size_of l) n.put in
    let c = n.capacity in
    let l = n.limit in
    ⊎_elim (λ full. inl (omega (arith, full, puts, c)))
    (λ full. inr (omega (arith, full, sizes, l))) (sees_full size w r b knew)

-- ends that have just met have a full pipe just if as many items as the capacity are known, or the
-- count is too large
pub full_of_test : (size : ℕ) (w : Writing) (r : Reading) → Beside w r
    → (length w.put ≡ length r.taken + w.capacity) ⊎ (w.limit < w.count + size) → LacksRoom size w r
full_of_test size w r b (inl most) = inl most
full_of_test size w r b (inr much) = inr (let s = sees_sizes w r b.sees in
    omega (arith, s, b.count, much))

pub test_of_full : (size : ℕ) (w : Writing) (r : Reading) → Beside w r → LacksRoom size w r
    → (length w.put ≡ length r.taken + w.capacity) ⊎ (w.limit < w.count + size)
test_of_full size w r b (inl most) = inl most
test_of_full size w r b (inr much) = inr (let s = sees_sizes w r b.sees in
    omega (arith, s, b.count, much))

-- a reader that knows of no item has an empty pipe
pub sees_empty : (w : Writing) (r : Reading) → SeeEachOther w r → r.known ≡ [] → IsEmpty w r
sees_empty w r b none = b.between ∙ (ap (λ s. r.taken ++ s) none ∙ append-nil r.taken)

-- a writer that has seen no mark has a reader that has not hung up
pub sees_open : (w : Writing) (r : Reading) → SeeEachOther w r → IsFalse w.noted → w.pending ≡ 0
    → IsFalse r.hung_up
sees_open w r b unnoted none = grind (arith, b.seen, unnoted, none)

-- ends that have just met have counted and told right
pub beside_counted : (w : Writing) (r : Reading) → Beside w r → IsCounted w
beside_counted w r b = record {
  within = b.light;
  covers =
      let s = sees_sizes w r b.sees in
      let e = ap (λ n. size_of n.before) (let t = b.sees in t.ends) in
      omega (arith, s, e, b.count, b.heard, b.told);
}

pub beside_told : (w : Writing) (r : Reading) → Beside w r → IsTold r
beside_told w r b = omega (arith, b.told, b.untold)
