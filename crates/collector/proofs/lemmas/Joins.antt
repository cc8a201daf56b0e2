-- What a reader took, item by item.
use Rattle.std.proofs.Common.{◌≡◌, ◌<◌, ℕ, Bool, false, ◌||◌, List, [], ◌∷◌, ◌++◌}
use Rattle.std.proofs.Common.{length, if◌then◌else◌, sym, ap, ◌∙◌, arith}
use Rattle.std.proofs.Common.{append_assoc, append-nil}
use Rattle.std.specs.List.{concat}
use Rattle.std.proofs.lemmas.List.{length_push}
use Rattle.machine.specs.Items.{bytes_of, has_close}
use Rattle.machine.specs.declared.piece.Item.{Item}
use Rattle.machine.specs.declared.piece.Item.TheVariants.{Bytes, Close}
use Rattle.bounded_pipe.specs.Ends.{Reading, ReadsOn}
use Rattle.bounded_pipe.specs.Events.{Takes, SameReading}
use Rattle.bounded_pipe.specs.Pipes.{bytes_taken, events_of_reading}
use Rattle.bounded_pipe.proofs.Records.{reads_on_transitive}
use Rattle.collector.specs.inner.Joins.{Took, item_bytes, is_last}
use Rattle.collector.proofs.lemmas.Items.{bytes_of-piece, bytes_of-close, has_close-close}
use Rattle.collector.proofs.lemmas.Items.{has_close-piece}

-- an item more is an event more
one_event : (item : Item) (a b : Reading) → Takes item a b
    → events_of_reading a < events_of_reading b
one_event item a b takes =
    let taken = ap length takes.taken in
    let pushed = length_push a.taken item in
    let marks = ap {B = ℕ} (λ (h : Bool). if h then 1 else 0) takes.hung_up in
    omega (arith, taken, pushed, marks)

-- one item was taken
pub took_one : (item : Item) (a b : Reading) → Takes item a b → ReadsOn a b
    → Took a b (item_bytes item) (is_last item)
took_one (Bytes piece) a b takes on = record {
  goes_on = on;
  taken = ap bytes_of takes.taken ∙ bytes_of-piece a.taken piece;
  end = ap has_close takes.taken ∙ has_close-piece a.taken piece;
  stays = takes.hung_up;
  moved = one_event (Bytes piece) a b takes;
}
took_one Close a b takes on = record {
  goes_on = on;
  taken = ap bytes_of takes.taken ∙ (bytes_of-close a.taken ∙ sym (append-nil (bytes_of a.taken)));
  end = ap has_close takes.taken ∙ has_close-close a.taken;
  stays = takes.hung_up;
  moved = one_event Close a b takes;
}

-- after pieces one item more was taken
pub took_more : (a b c : Reading) (bytes : List ℕ) (item : Item) → Took a b bytes false
    → Takes item b c → ReadsOn b c
    → Took a c (bytes ++ item_bytes item) (is_last item)
took_more a b c bytes item before takes on =
    let one = took_one item b c takes on in
    record {
      goes_on = reads_on_transitive a b c before.goes_on on;
      taken = one.taken ∙ (ap (λ l. l ++ item_bytes item) before.taken
          ∙ append_assoc (bytes_taken a) bytes (item_bytes item));
      end = one.end ∙ ap (λ h. is_last item || h) before.end;
      stays = one.stays ∙ before.stays;
      moved = (let first = before.moved in let second = one.moved in omega (arith, first, second));
    }

-- a piece more
pub concat_push : (xs : List (List ℕ)) (x : List ℕ) → concat (xs ++ x ∷ []) ≡ concat xs ++ x
concat_push [] x = append-nil x
concat_push (y ∷ ys) x = ap (λ l. y ++ l) (concat_push ys x) ∙ sym (append_assoc y (concat ys) x)

-- after a look at an empty pipe it is the same
pub took_same : (a b c : Reading) (bytes : List ℕ) (last : Bool) → Took a b bytes last
    → SameReading b c → ReadsOn b c → Took a c bytes last
took_same a b c bytes last before same on = record {
  goes_on = reads_on_transitive a b c before.goes_on on;
  taken = ap bytes_of same.taken ∙ before.taken;
  end = ap has_close same.taken ∙ before.end;
  stays = same.hung_up ∙ before.stays;
  moved = (let first = before.moved in let taken = ap length same.taken in
      let marks = ap {B = ℕ} (λ (h : Bool). if h then 1 else 0) same.hung_up in
      omega (arith, first, taken, marks));
}
