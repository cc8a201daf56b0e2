-- Lists of items, and what the reading end of a pipe knows of what is still to come.
use Rattle.std.proofs.Common.{◌≡◌, ℕ, true, List, [], ◌∷◌, ◌++◌, refl, sym, ap, ◌∙◌, subst, ⊎_elim}
use Rattle.std.proofs.Common.{append_assoc, append-nil, arith}
use Rattle.std.proofs.lemmas.Bool.{false≢true, cases_Bool}
use mathlib.Core.List.{IsPrefix}
use Rattle.machine.specs.Items.{bytes_of, has_close, IsTidy}
use Rattle.machine.specs.declared.piece.Item.{Item}
use Rattle.machine.specs.declared.piece.Item.TheVariants.{Bytes, Close}
use Rattle.bounded_pipe.specs.Ends.{Writing, Reading}
use Rattle.bounded_pipe.specs.Pipes.{items_put, items_taken, bytes_put, bytes_taken, is_closed}
use Rattle.bounded_pipe.specs.Pipes.{is_at_end, IsSound}

pub prefix_trans : (xs ys zs : List ℕ) → IsPrefix xs ys → IsPrefix ys zs → IsPrefix xs zs
prefix_trans xs ys zs a b = (
  a.0 ++ b.0,
  sym (append_assoc xs a.0 b.0) ∙ ap (λ l. l ++ b.0) a.1
      ∙ b.1,
)

pub prefix_all : (xs ys : List ℕ) → xs ≡ ys → IsPrefix xs ys
prefix_all xs ys e = ([], append-nil xs ∙ e)

pub bytes-append : (a b : List Item) → bytes_of (a ++ b) ≡ bytes_of a ++ bytes_of b
bytes-append [] b = refl
bytes-append (Bytes piece ∷ a) b = ap (λ x. piece ++ x) (bytes-append a b)
    ∙ sym (append_assoc piece (bytes_of a) (bytes_of b))
bytes-append (Close ∷ a) b = bytes-append a b

nil_right : (a b : List Item) → a ++ b ≡ [] → b ≡ []
nil_right [] b e = e
nil_right (x ∷ a) b e = grind arith

-- after a Close comes nothing
close_last : (block : ℕ) (a b : List Item) → IsTidy block (a ++ b) → has_close a ≡ true → b ≡ []
close_last block [] b t h = absurd (false≢true h)
close_last block (Bytes piece ∷ a) b t h = close_last block a b t.1 h
close_last block (Close ∷ a) b t h = nil_right a b t

-- what was put on a pipe that is to hold this list: a prefix of it, and all of it if Close was put
pub record IsFixed (w : Writing) (list : List ℕ) : Type 0 where
  pub begins : IsPrefix (bytes_put w) list
  pub whole : is_closed w ≡ true → bytes_put w ≡ list

-- what is still to come at the reading end, nothing after a Close
pub record ToCome (r : Reading) (list : List ℕ) : Type 0 where
  pub rest : List ℕ
  pub joined : bytes_taken r ++ rest ≡ list
  pub none : is_at_end r ≡ true → rest ≡ []

module _ (block : ℕ) (w : Writing) (r : Reading) (sound : IsSound block w r) where
  -- what is in between
  pub between : List Item
  between = sound.ends.order.0

  pub in_order : items_put w ≡ items_taken r ++ between
  unfolding between
  in_order = sym sound.ends.order.1

  -- a Close that was taken is the last of what was put
  pub closed_whole : is_at_end r ≡ true → items_taken r ≡ items_put w
  closed_whole h =
      let none = close_last block (items_taken r) between
      (subst (λ l. IsTidy block l) in_order sound.tidy) h in
      sym (in_order ∙ ap (λ l. items_taken r ++ l) none ∙ append-nil (items_taken r))

  taken_front : IsPrefix (bytes_taken r) (bytes_put w)
  taken_front = (
    bytes_of between,
    sym (ap bytes_of in_order
        ∙ bytes-append (items_taken r) between),
  )

  pub taken_begins : (list : List ℕ) → IsFixed w list → IsPrefix (bytes_taken r) list
  taken_begins list f = prefix_trans (bytes_taken r) (bytes_put w) list taken_front f.begins

  pub taken_whole : (list : List ℕ) → IsFixed w list → is_at_end r ≡ true → bytes_taken r ≡ list
  taken_whole list f h =
      let e = closed_whole h in
      ap bytes_of e ∙ f.whole (sym (ap has_close e) ∙ h)

  pub to_come : (list : List ℕ) → IsFixed w list → ToCome r list
  to_come list f = ⊎_elim
      (λ h. record {
        rest = [];
        joined = append-nil (bytes_taken r)
            ∙ taken_whole list f h;
        none = λ h'. refl;
      })
      (λ h. let t = taken_begins list f in
      record { rest = t.0; joined = t.1; none = λ h'. absurd (false≢true (sym h ∙ h')) })
      (cases_Bool (is_at_end r))
