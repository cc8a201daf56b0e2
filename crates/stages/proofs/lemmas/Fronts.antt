-- The next item becomes the front item.
use Rattle.std.proofs.Common.{◌≡◌, ℕ, suc, Bool, true, false, List, [], ◌∷◌, ◌++◌, map, refl, sym}
use Rattle.std.proofs.Common.{ap, ap₂, ◌∙◌, subst, Option, Some, None, is_some}
use Rattle.std.proofs.lemmas.Bool.{false≢true}
use Rattle.std.proofs.lemmas.List.Elements.{All-head, All-tail}
use Rattle.std.specs.List.{All, AllZip, concat}
use Rattle.machine.specs.Pieces.{IsPieceLong}
use Rattle.machine.specs.Items.{bytes_of}
use Rattle.machine.specs.declared.piece.Item.{Item}
use Rattle.machine.specs.declared.piece.Item.TheVariants.{Bytes, Close}
use Rattle.machine.specs.declared.protocol.Want.{Want}
use Rattle.machine.specs.declared.protocol.Want.TheVariants.{Finished, Take}
use Rattle.bounded_pipe.specs.Ends.{Writing}
use Rattle.splice_tee.specs.BranchStates.{is_open, NoneLacks, lacking_again}
use Rattle.splice_tee.specs.declared.branches.Served.{Served}
use Rattle.splice_tee.specs.declared.branches.Served.TheVariants.{Lacks, Has, Gone}
use Rattle.stages.specs.Stages.{BranchKeeps, FrontIs, front_bytes}
use Rattle.stages.specs.Owed.{is_finished}
use Rattle.stages.specs.Outlets.{Putting}
use Rattle.stages.specs.inner.Moves.{OutletKeeps, Advances, NextIs, is_piece}
use Rattle.stages.proofs.Lists.{zip_weaker}

pub advances_none : (finished : Bool) (o new : Putting) → new ≡ o → Advances finished o new
advances_none finished o new e =
    record {
      pipes = ap (λ (x : Putting). x.pipes) e;
      ends = ap (λ (x : Putting). x.ends) e;
      block = ap (λ (x : Putting). x.block) e;
      opens = ap (λ (x : Putting). map is_open x.served) e;
      keeps = λ want made _ k. subst (λ (x : Putting). OutletKeeps want made x) (sym e) k;
    }

pub advances_trans : (finished : Bool) (a b c : Putting) → Advances finished a b
    → Advances finished b c → Advances finished a c
advances_trans finished a b c h k =
    record {
      pipes = k.pipes ∙ h.pipes;
      ends = k.ends ∙ h.ends;
      block = k.block ∙ h.block;
      opens = k.opens ∙ h.opens;
      keeps = λ want made f x. k.keeps want made f (h.keeps want made f x);
    }

-- a piece, or Close, becomes the front item
branch_loaded : (block : ℕ) (made owed more : List ℕ) (item : Item) (w : Writing) (s : Served)
    → owed ≡ front_bytes (Some item) ++ more → BranchKeeps block made None owed w s
    → BranchKeeps block made (Some item) more w s
branch_loaded block made owed more item w Lacks e b =
    record {
      bytes = ap (λ l. bytes_of w.put ++ l) (sym e)
          ∙ b.bytes;
      noted = b.noted;
      close = b.close;
      tidy = b.tidy;
    }
branch_loaded block made owed more item w Has e b = absurd b.bytes
branch_loaded block made owed more item w Gone e b =
    record { bytes = b.bytes; noted = b.noted; close = b.close; tidy = b.tidy }

finished_wants : (want : Want) → true ≡ is_finished want → want ≡ Finished
finished_wants Finished e = refl
finished_wants (Take i) e = absurd (false≢true (sym e))

-- the branches with this front item, and these pieces after it
abbrev pub with_front : Putting → Option Item → List (List ℕ) → Putting
with_front o front more = record {
  pipes = o.pipes;
  ends = o.ends;
  served = o.served;
  front =
      front;
  block = o.block;
  owed = more;
}

loaded_keeps : (want : Want) (made : List ℕ) (o : Putting) (item : Item) (more : List (List ℕ))
    → o.front ≡ None → concat o.owed ≡ front_bytes (Some item) ++ concat more
    → FrontIs o.block want more (Some item) → All (IsPieceLong o.block) more
    → OutletKeeps want made o → OutletKeeps want made (with_front o (Some item) more)
loaded_keeps want made o item more e bytes front long k =
    record {
      branches =
          zip_weaker (BranchKeeps o.block made None (concat o.owed))
          (BranchKeeps o.block made (Some item) (concat more))
          (λ w s. branch_loaded o.block made (concat o.owed) (concat more) item w s bytes)
          o.ends o.served
          (subst (λ (x : Option Item). AllZip
          (BranchKeeps o.block made x (concat o.owed)) o.ends o.served) e k.branches);
      front = front;
      owed = long;
    }

pub loaded : (finished : Bool) (o : Putting) (more : List (List ℕ)) (front : Option Item)
    → o.front ≡ None → NextIs finished o.owed more front
    → Advances finished o (with_front o front more)
loaded finished o more None e n = advances_none finished o (with_front o None more)
    (ap₂ (λ (f : Option Item) (p : List (List ℕ)). with_front o f p) (sym e) (n.2 ∙ sym n.1))
loaded finished o more (Some (Bytes piece)) e n =
    record {
      pipes = refl;
      ends = refl;
      block = refl;
      opens = refl;
      keeps = λ want made f k.
          let long : All (IsPieceLong o.block) (piece ∷ more) =
          subst (λ (l : List (List ℕ)). All (IsPieceLong o.block) l) n k.owed in
          loaded_keeps want made o (Bytes piece) more e (ap concat n)
          (All-head (IsPieceLong o.block) piece more long)
          (All-tail (IsPieceLong o.block) piece more long) k;
    }
loaded finished o more (Some Close) e n =
    record {
      pipes = refl;
      ends = refl;
      block = refl;
      opens = refl;
      keeps = λ want made f k.
          loaded_keeps want made o Close more e (ap concat (n.1 ∙ sym n.2))
          (finished_wants want (sym n.0 ∙ f), n.2)
          (subst (λ (l : List (List ℕ)). All (IsPieceLong o.block) l) (n.1 ∙ sym n.2) k.owed) k;
    }

-- each open branch has the front piece
open_again : (ss : List Served) → map is_open (map lacking_again ss) ≡ map is_open ss
open_again [] = refl
open_again (Gone ∷ ss) = ap (λ l. false ∷ l) (open_again ss)
open_again (s ∷ ss) = ap (λ l. true ∷ l) (open_again ss)

all_turned : (block : ℕ) (made owed piece : List ℕ) (ws : List Writing) (ss : List Served)
    → NoneLacks ss → AllZip (BranchKeeps block made (Some (Bytes piece)) owed) ws ss
    → AllZip (BranchKeeps block made None owed) ws (map lacking_again ss)
all_turned block made owed piece [] [] n a = tt
all_turned block made owed piece (w ∷ ws) (Lacks ∷ ss) n a = absurd (n 0 refl)
all_turned block made owed piece (w ∷ ws) (s ∷ ss) n a =
    let b = a.0 in (
      record { bytes = b.bytes; noted = b.noted; close = b.close; tidy = b.tidy },
      all_turned block made owed piece ws ss (λ k. n (suc k)) a.1,
    )
all_turned block made owed piece _ _ n a = absurd a

-- the branches with nothing at their front
abbrev pub turned_to : Putting → List Served → Putting
turned_to o served = record {
  pipes = o.pipes;
  ends = o.ends;
  served = served;
  front = None;
  block =
      o.block;
  owed = o.owed;
}

turned : (finished : Bool) (o : Putting) (piece : List ℕ) (served : List Served)
    → o.front ≡ Some (Bytes piece) → NoneLacks o.served → served ≡ map lacking_again o.served
    → Advances finished o (turned_to o served)
turned finished o piece served e n is =
    record {
      pipes = refl;
      ends = refl;
      block = refl;
      opens = ap (map is_open) is ∙ open_again o.served;
      keeps = λ want made f k.
          record {
            branches =
                subst (λ (l : List Served). AllZip
                (BranchKeeps o.block made None (concat o.owed)) o.ends l) (sym is)
                (all_turned o.block made (concat o.owed) piece o.ends o.served n
                (subst (λ (x : Option Item). AllZip
                (BranchKeeps o.block made x (concat o.owed)) o.ends o.served) e k.branches));
            front = tt;
            owed = k.owed;
          };
    }

turned_at : (f : Option Item) (finished : Bool) (o : Putting) (served : List Served) → o.front ≡ f
    → is_piece f ≡ true → NoneLacks o.served → served ≡ map lacking_again o.served
    → Advances finished o (turned_to o served)
turned_at (Some (Bytes piece)) finished o served e p n is = turned finished o piece served e n is
turned_at _ finished o served e p n is = absurd (false≢true p)

pub turned_over : (finished : Bool) (o : Putting) (served : List Served) → is_piece o.front ≡ true
    → NoneLacks o.served → served ≡ map lacking_again o.served
    → Advances finished o (turned_to o served)
turned_over finished o served p n is = turned_at o.front finished o served refl p n is

pub none_is : {X : Type 0} (r : Option X) → is_some r ≡ false → r ≡ None
none_is None e = refl
none_is (Some x) e = absurd (false≢true (sym e))
