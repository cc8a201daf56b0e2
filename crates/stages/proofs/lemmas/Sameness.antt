-- What a stage keeps does not depend on what its ends have seen of their other ends.
use Rattle.std.proofs.Common.{◌≡◌, ℕ, List, ◌++◌, refl, sym, ap, ◌∙◌, subst, Option, Some, None}
use Rattle.std.specs.List.{AllZip, concat}
use Rattle.machine.specs.Items.{bytes_of, has_close, IsTidy}
use Rattle.machine.specs.declared.piece.Item.{Item}
use Rattle.machine.specs.declared.protocol.Want.{Want}
use Rattle.bounded_pipe.specs.Ends.{Writing}
use Rattle.bounded_pipe.specs.Events.{SameReading, StillWriting}
use Rattle.splice_tee.specs.declared.branches.Served.{Served}
use Rattle.splice_tee.specs.declared.branches.Served.TheVariants.{Lacks, Has, Gone}
use Rattle.stages.specs.Stages.{BranchKeeps, front_bytes}
use Rattle.stages.specs.Inlets.{Taking, SameTaking}
use Rattle.stages.specs.Outlets.{Putting}
use Rattle.stages.specs.inner.Moves.{OutletKeeps, SamePutting}
use Rattle.stages.proofs.lemmas.Ends.{all_still, all_same, all_same_trans, same_reading}
use Rattle.stages.proofs.Lists.{zip_trans, zip_flip, zip_refl}

pub branch_looked : (block : ℕ) (made owed : List ℕ) (front : Option Item) (v w : Writing)
    (s : Served) → StillWriting w v → BranchKeeps block made front owed w s
    → BranchKeeps block made front owed v s
branch_looked block made owed front v w Lacks e b =
    record {
      bytes = ap (λ l. bytes_of l ++ (front_bytes front ++ owed)) e.put
          ∙ b.bytes;
      noted = e.noted ∙ b.noted;
      close = ap has_close e.put
          ∙ b.close;
      tidy = subst (λ l. IsTidy block l) (sym e.put) b.tidy;
    }
branch_looked block made owed None v w Has e b = absurd b.bytes
branch_looked block made owed (Some item) v w Has e b =
    record {
      bytes = ap (λ l. bytes_of l ++ owed) e.put ∙ b.bytes;
      noted = e.noted
          ∙ b.noted;
      close = ap has_close e.put ∙ b.close;
      tidy =
          subst (λ l. IsTidy block l) (sym e.put) b.tidy;
    }
branch_looked block made owed front v w Gone e b =
    record {
      bytes = (b.bytes.0, ap (λ l. bytes_of l ++ b.bytes.0) e.put ∙ b.bytes.1);
      noted =
          e.noted ∙ b.noted;
      close = ap has_close e.put ∙ b.close;
      tidy =
          subst (λ l. IsTidy block l) (sym e.put) b.tidy;
    }

pub branches_looked : (block : ℕ) (made owed : List ℕ) (front : Option Item) (ws vs : List Writing)
    (ss : List Served) → AllZip StillWriting ws vs
    → AllZip (BranchKeeps block made front owed) ws ss
    → AllZip (BranchKeeps block made front owed) vs ss
branches_looked block made owed front ws vs ss a b =
    zip_trans (λ v w. StillWriting w v) (BranchKeeps block made front owed)
    (BranchKeeps block made front owed) (branch_looked block made owed front) vs ws ss
    (zip_flip StillWriting ws vs a) b

-- branches whose ends alone have seen more
pub with_ends : (o p : Putting) → SamePutting o p → record o { ends = p.ends } ≡ p
with_ends o p s = λ i. record {
  pipes = sym s.pipes i;
  ends = p.ends;
  served =
      sym s.served i;
  front = sym s.front i;
  block = sym s.block i;
  owed = sym s.owed i;
}

pub outlet_looked : (want : Want) (made : List ℕ) (o p : Putting) → SamePutting o p
    → OutletKeeps want made o → OutletKeeps want made p
outlet_looked want made o p s keeps =
    subst (λ (x : Putting). OutletKeeps want made x) (with_ends o p s)
    (record {
      branches = branches_looked o.block made (concat o.owed) o.front o.ends p.ends o.served
          (all_still o.ends p.ends s.ends) keeps.branches;
      front = keeps.front;
      owed = keeps.owed;
    })

pub same_putting : (o : Putting) → SamePutting o o
same_putting o = record {
  pipes = refl;
  ends = all_same o.ends;
  served = refl;
  front = refl;
  block =
      refl;
  owed = refl;
}

pub same_putting_trans : (o p q : Putting) → SamePutting o p → SamePutting p q → SamePutting o q
same_putting_trans o p q s t =
    record {
      pipes = t.pipes ∙ s.pipes;
      ends = all_same_trans o.ends p.ends q.ends s.ends t.ends;
      served = t.served ∙ s.served;
      front = t.front ∙ s.front;
      block = t.block ∙ s.block;
      owed = t.owed ∙ s.owed;
    }

pub same_taking : (i : Taking) → SameTaking i i
same_taking i = record {
  pipes = refl;
  ends = zip_refl SameReading same_reading i.ends;
  hung_up =
      refl;
}
