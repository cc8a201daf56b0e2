-- The ends of a stage go on from their own records.
use Rattle.std.proofs.Common.{ℕ, Bool, None, List, [], refl, sym, ◌∙◌, subst}
use Rattle.std.specs.List.{AllZip}
use Rattle.bounded_pipe.specs.Ends.{Writing, WritesOn, ReadsOn}
use Rattle.bounded_pipe.specs.Events.{HangsUp}
use Rattle.stages.specs.Inlets.{Taking, SameTaking, ReadsGoOn}
use Rattle.stages.specs.inner.Moves.{HangsAllUp, Advances}
use Rattle.stages.specs.Outlets.{Putting, WritesGoOn}
use Rattle.stages.proofs.lemmas.Ends.{all_read_on, all_write_on, all_write_on_on, all_same_read_on}
use Rattle.stages.proofs.lemmas.Ends.{hangs_up_on}
use Rattle.stages.proofs.Lists.{zip_weaker}

pub reads_go_on : (i : Taking) → ReadsGoOn i i
reads_go_on i = record { pipes = refl; ends = all_read_on i.ends }

pub same_goes_on : (i j : Taking) → SameTaking i j → ReadsGoOn i j
same_goes_on i j s = record { pipes = s.pipes; ends = all_same_read_on i.ends j.ends s.ends }

pub hung_goes_on : (i j : Taking) → HangsAllUp i j → ReadsGoOn i j
hung_goes_on i j h = record {
  pipes = h.pipes;
  ends =
      zip_weaker HangsUp ReadsOn hangs_up_on i.ends j.ends h.ends;
}

pub writes_go_on : (o : Putting) → WritesGoOn o o
writes_go_on o = record { pipes = refl; block = refl; ends = all_write_on o.ends }

pub writes_go_on_on : (a b c : Putting) → WritesGoOn a b → WritesGoOn b c → WritesGoOn a c
writes_go_on_on a b c h k = record {
  pipes = k.pipes ∙ h.pipes;
  block = k.block
      ∙ h.block;
  ends = all_write_on_on a.ends b.ends c.ends h.ends k.ends;
}

pub advanced_goes_on : (finished : Bool) (o p : Putting) → Advances finished o p → WritesGoOn o p
advanced_goes_on finished o p a = record {
  pipes = a.pipes;
  block = a.block;
  ends =
      subst (λ (l : List Writing). AllZip WritesOn o.ends l) (sym a.ends) (all_write_on o.ends);
}

pub owed_goes_on : (o : Putting) (more : List (List ℕ)) → WritesGoOn o (record o { owed = more })
owed_goes_on o more = record { pipes = refl; block = refl; ends = all_write_on o.ends }

pub cleared_goes_on : (o : Putting) → WritesGoOn o (record o { front = None; owed = [] })
cleared_goes_on o = record { pipes = refl; block = refl; ends = all_write_on o.ends }
